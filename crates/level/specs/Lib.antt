pub mod Levels
pub mod Readers
pub mod Stages
