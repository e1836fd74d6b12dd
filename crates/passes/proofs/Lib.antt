pub mod Laws
pub mod Transfer
pub mod Renumber
pub mod Squash
pub mod Passing
pub mod Tracking
