pub mod Holdings
pub mod WorldLaws
