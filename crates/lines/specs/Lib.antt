pub mod Faults
pub mod Settings
pub mod Headers
pub mod Calls
