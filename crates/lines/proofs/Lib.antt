pub mod Firsts
pub mod Ends
