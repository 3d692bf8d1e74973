mod Bytes
pub mod Words
