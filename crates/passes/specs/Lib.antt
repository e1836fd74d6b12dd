pub mod Blocks
pub mod Live
pub mod Passes
