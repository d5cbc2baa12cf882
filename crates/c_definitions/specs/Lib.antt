pub mod Lookup
pub mod Index
pub mod Views
