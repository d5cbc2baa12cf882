pub mod InstalledTexts
pub mod JournalWorlds
pub mod JournalInstalls
pub mod JournalMoves
pub mod UsedNames
mod Examples
