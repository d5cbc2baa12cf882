pub mod AdmitsText
pub mod Writing
pub mod Known
pub mod Shown
pub mod Answered
