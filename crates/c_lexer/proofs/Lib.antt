pub mod Laws
pub mod CutExists
pub mod LongestPrefixes
pub mod LongestOfThree
pub mod NumberWords
pub mod Strings
pub mod CutSoFar
pub mod Spelling
pub mod UnitsByFirstBytes
pub mod Utf8
mod Examples
