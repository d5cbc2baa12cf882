pub mod CheckIns
pub mod OneText
pub mod Added
pub mod Outcomes
pub mod LineLookup
