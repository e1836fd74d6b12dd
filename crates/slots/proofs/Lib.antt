pub mod Laws
mod Lent
pub mod Walking
