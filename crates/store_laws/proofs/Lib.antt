pub mod Holders
pub mod Locking
pub mod LiveObjects
