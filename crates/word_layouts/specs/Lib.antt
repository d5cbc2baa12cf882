pub mod WordValues
pub mod ChangedWords
pub mod WordChanges
pub mod TextLayouts
pub mod ChangedCells
pub mod Copies
