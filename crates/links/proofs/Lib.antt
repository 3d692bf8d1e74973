pub mod Resolving
pub mod Changing
pub mod Nearby
