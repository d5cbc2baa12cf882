pub mod Meeting
pub mod Passing
pub mod Seen
pub mod Ways
pub mod Verified
pub mod Laws
