pub mod Putting
pub mod NamesBelow
pub mod OrderedTable
pub mod SetTexts
pub mod Assembled
