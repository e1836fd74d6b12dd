pub mod Front
pub mod ByKind
pub mod TableLaws
