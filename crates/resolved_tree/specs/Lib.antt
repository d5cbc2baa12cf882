pub mod Grown
pub mod Nodes
pub mod Parts
pub mod Trees
pub mod Words
