pub mod Cuts
pub mod Rests
pub mod Tokens
pub mod Cursors
