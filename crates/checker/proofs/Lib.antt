pub mod Seen
pub mod Zipped
