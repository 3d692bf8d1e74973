pub mod Circle
pub mod Motions
pub mod Arcs
