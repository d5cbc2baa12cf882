pub mod Numbering
pub mod NamedStops
pub mod Doing
pub mod Loaded
pub mod TextTables
pub mod FirstCells
pub mod OwnBodies
pub mod MadeTexts
