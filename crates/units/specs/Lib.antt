pub mod Sets
pub mod Uses
pub mod Rows
pub mod Along
pub mod Marks
pub mod Ask
pub mod Seek
