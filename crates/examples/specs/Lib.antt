pub mod Files
pub mod Proved
