mod Counts
mod Places
mod Tables
mod Whole
mod Between
mod Execution
pub mod Propositions
mod Examples
