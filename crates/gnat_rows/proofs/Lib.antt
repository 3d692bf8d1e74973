pub mod Changes
pub mod Trees
pub mod Apart
pub mod Showing
pub mod Only
pub mod Whole
pub mod Columns
