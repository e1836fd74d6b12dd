pub mod Row
pub mod Links
