pub mod Blocks
pub mod Seen
pub mod Changes
pub mod Laws
