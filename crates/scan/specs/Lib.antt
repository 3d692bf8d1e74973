pub mod Rows
pub mod Scans
