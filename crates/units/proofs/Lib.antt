pub mod Standing
pub mod Filling
pub mod Using
pub mod Indexing
pub mod Storages
pub mod Asking
pub mod Finding
