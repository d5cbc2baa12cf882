pub mod BroughtObjects
pub mod CarriedCells
pub mod GlobalNames
pub mod InstallSteps
