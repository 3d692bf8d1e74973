pub mod Rows
pub mod Shows
pub mod Trees
pub mod Lying
