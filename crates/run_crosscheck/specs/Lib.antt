pub mod Comparisons
pub mod ComparisonLaws
pub mod GivenJournals
pub mod Crosschecks
pub mod Following
