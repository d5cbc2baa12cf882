pub mod Limits
pub mod Formulas
pub mod Transforms
