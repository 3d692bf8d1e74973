pub mod Ranks
pub mod Layouts
pub mod Knockouts
pub mod Settles
pub mod Walks
pub mod Forests
