pub mod Roads
pub mod Calls
pub mod Roadmaps
pub mod Unmades
