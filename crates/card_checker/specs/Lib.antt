pub mod Passes
pub mod Lawful
