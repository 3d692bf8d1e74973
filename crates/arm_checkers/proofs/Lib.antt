pub mod Contained
pub mod Begins
pub mod Firsts
pub mod Parts
pub mod OfJoints
pub mod Ways
pub mod Walls
