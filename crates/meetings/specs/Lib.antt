pub mod Members
pub mod Meeting
pub mod Closing
pub mod Visits
