pub mod ChangesText
pub mod Shown
pub mod Writing
