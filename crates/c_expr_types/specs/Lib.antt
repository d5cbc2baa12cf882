pub mod Faults
pub mod Found
pub mod Formats
pub mod Expressions
pub mod Need
pub mod Views
