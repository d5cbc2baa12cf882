pub mod Adding
pub mod Drawn
pub mod Rows
pub mod Steps
pub mod Loops
pub mod Naming
pub mod Weights
