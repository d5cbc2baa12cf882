pub mod Appending
pub mod Weights
