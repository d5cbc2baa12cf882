pub mod Sets
pub mod Patches
pub mod Unknown
pub mod Undefined
