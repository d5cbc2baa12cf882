pub mod Tables
pub mod Ids
pub mod Stores
pub mod Causes
pub mod Patches
