pub mod Definitions
pub mod Places
pub mod Globals
pub mod Programs
