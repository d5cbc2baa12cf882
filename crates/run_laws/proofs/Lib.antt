pub mod Deterministic
pub mod Repeated
