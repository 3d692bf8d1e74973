pub mod Unique
pub mod Steps
pub mod Going
pub mod Counting
pub mod Ending
