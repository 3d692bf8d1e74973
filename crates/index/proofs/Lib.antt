pub mod Standing
pub mod Outcomes
