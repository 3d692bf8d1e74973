pub mod Settling
pub mod Joining
pub mod Moving
pub mod Places
