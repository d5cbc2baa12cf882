pub mod Decisions
pub mod Laws
pub mod Obstacles
pub mod Rows
pub mod Verdicts
