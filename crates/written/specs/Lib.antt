pub mod Wants
pub mod Arms
pub mod Cards
