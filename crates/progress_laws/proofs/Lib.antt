pub mod Depths
pub mod Runs
