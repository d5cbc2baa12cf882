pub mod Ends
pub mod Pieces
pub mod Steps
pub mod Values
pub mod Weights
pub mod Work
