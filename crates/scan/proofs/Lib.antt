pub mod Gathering
pub mod Closing
pub mod States
