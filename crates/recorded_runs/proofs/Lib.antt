pub mod MovedRecords
pub mod KeptRecords
pub mod Runs
