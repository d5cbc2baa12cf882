pub mod FailedReads
pub mod Reading
pub mod Stopping
