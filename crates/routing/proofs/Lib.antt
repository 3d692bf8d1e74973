pub mod Winning
pub mod Climbing
pub mod Laying
pub mod Offering
pub mod Emptying
pub mod Following
