pub mod Tests
pub mod Rooms
pub mod Choosing
