pub mod Turns
pub mod Poses
pub mod Swings
pub mod Lawful
