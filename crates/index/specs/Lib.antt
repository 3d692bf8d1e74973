pub mod Outcomes
pub mod Meaning
pub mod Calls
