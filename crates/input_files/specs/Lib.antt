pub mod Files
pub mod Lines
pub mod Sources
pub mod Journals
