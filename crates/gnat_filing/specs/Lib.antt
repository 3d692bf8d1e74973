pub mod Widening
pub mod Filed
pub mod Leaf
pub mod Choosing
pub mod Filling
pub mod Dropping
pub mod Under
pub mod Seeking
