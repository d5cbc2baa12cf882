pub mod Installed
pub mod Freshening
pub mod FoundChanges
pub mod CarriedWords
pub mod RowSteps
