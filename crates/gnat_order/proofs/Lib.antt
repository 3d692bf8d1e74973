pub mod Places
pub mod Numbers
pub mod Moves
pub mod Framing
