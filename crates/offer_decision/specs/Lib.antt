pub mod Seats
pub mod Patches
pub mod Prepared
pub mod Decided
pub mod Laws
pub mod Steps
pub mod Faults
