pub mod One
pub mod Owes
pub mod Reaching
pub mod Giving
pub mod Dropping
pub mod Adding
pub mod Going
