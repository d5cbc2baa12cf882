pub mod Fit
pub mod Words
pub mod Sorted
