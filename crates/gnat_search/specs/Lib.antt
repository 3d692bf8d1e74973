pub mod Wants
pub mod Nodes
