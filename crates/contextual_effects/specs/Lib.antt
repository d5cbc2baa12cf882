pub mod Effects
pub mod Parts
pub mod Edges
pub mod Steps
