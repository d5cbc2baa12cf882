pub mod Answers
pub mod Endings
pub mod Faults
pub mod Places
pub mod Statuses
pub mod Waits
