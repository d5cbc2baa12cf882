pub mod Tails
pub mod Loops
