pub mod Histories
pub mod Passes
pub mod Ruled
pub mod Steps
