pub mod Cards
pub mod Lawful
