mod Asked
mod Alike
mod Counting
mod Told
