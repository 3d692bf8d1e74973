pub mod Standing
pub mod Linking
pub mod Filling
pub mod States
