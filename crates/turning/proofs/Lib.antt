pub mod Circles
pub mod Floors
pub mod Reversal
pub mod Sweeps
pub mod Machine
pub mod Made
