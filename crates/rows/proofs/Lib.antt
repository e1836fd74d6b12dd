pub mod Tests
pub mod Digit
pub mod Rows
pub mod Members
pub mod Fill
pub mod Pack
pub mod Links
