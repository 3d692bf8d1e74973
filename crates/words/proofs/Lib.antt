pub mod Every
pub mod Splits
pub mod Numbers
pub mod Parts
