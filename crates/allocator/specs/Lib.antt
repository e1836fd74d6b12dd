pub mod All
pub mod Placing
