pub mod Words
pub mod Instructions
pub mod Meaning
pub mod Seen
