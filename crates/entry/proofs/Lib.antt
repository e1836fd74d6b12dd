pub mod Laws
pub mod Decide
pub mod Counts
