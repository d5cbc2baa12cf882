pub mod Journals
pub mod Results
pub mod Deadlocks
