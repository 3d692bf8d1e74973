pub mod Arcs
pub mod Walls
