pub mod Placement
pub mod Storage
pub mod Room
pub mod File
