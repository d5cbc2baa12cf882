pub mod InstalledTexts
pub mod UsedNames
