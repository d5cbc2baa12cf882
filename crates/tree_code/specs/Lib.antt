pub mod Ranges
pub mod Code
pub mod CodedPieces
pub mod CodeLaws
