pub mod Rooms
pub mod Steps
pub mod Files
