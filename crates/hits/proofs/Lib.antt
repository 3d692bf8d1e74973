pub mod Precedence
pub mod Putting
pub mod Ranking
pub mod Keeping
pub mod Placing
pub mod Sliding
pub mod Closing
pub mod Among
