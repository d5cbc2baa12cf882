pub mod Kept
pub mod Seen
pub mod Needs
pub mod Plain
pub mod Prepared
pub mod Steps
pub mod Asked
