pub mod History
pub mod Tells
pub mod Owed
