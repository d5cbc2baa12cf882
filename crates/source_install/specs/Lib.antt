pub mod FoundChanges
pub mod NewData
pub mod OwnCells
