pub mod StackWords
pub mod SharedChanges
pub mod Creations
