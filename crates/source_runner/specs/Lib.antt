pub mod Frames
pub mod Joins
pub mod Machines
pub mod Makes
pub mod Queries
pub mod SourceRuns
pub mod States
pub mod Waits
