pub mod WordValues
pub mod WordSteps
pub mod CodePlaces
pub mod Variables
pub mod CodeSteps
pub mod CodeFine
pub mod CodeReached
pub mod Arguments
pub mod CodeTrees
pub mod CodeEffects
pub mod CodeLoops
pub mod CodeStatements
pub mod CodeBlocks
pub mod LocalEvaluation
pub mod AfterStops
mod Examples
