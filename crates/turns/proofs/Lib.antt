pub mod Joining
pub mod Turns
pub mod Numbering
pub mod Linking
pub mod Marking
pub mod Seeking
pub mod Noting
pub mod Turning
