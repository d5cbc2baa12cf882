pub mod Adding
pub mod Jumps
pub mod KindLaws
pub mod Endings
pub mod Parts
pub mod Walks
pub mod Effects
pub mod Scopes
