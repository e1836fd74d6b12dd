pub mod Firsts
pub mod Walks
pub mod Closes
