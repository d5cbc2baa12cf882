pub mod ValuesOfTypes
pub mod SafeSteps
pub mod SafeTrees
pub mod SafeStatements
pub mod SafePieces
mod Examples
