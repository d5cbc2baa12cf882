pub mod Renaming
pub mod WordFields
pub mod Bringing
pub mod Versions
pub mod CellWords
pub mod Copying
pub mod Preparing
