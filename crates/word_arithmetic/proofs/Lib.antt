pub mod WholeWords
pub mod SignedResults
