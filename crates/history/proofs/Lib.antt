pub mod Asking
pub mod One
pub mod Fitting
pub mod Playing
