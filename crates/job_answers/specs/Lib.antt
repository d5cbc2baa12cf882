pub mod Plans
pub mod Jobs
pub mod Calls
pub mod Reports
pub mod Runs
pub mod Generated
pub mod Answers
