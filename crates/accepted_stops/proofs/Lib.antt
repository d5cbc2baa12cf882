pub mod Fitting
pub mod TreeStops
pub mod FewNames
pub mod FoundNames
pub mod Stops
pub mod StructNames
