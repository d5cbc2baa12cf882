pub mod Opened
pub mod Locked
pub mod Turns
pub mod Crews
pub mod Workers
