pub mod Slots
pub mod Locking
