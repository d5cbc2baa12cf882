pub mod Adding
pub mod Declared
pub mod Assembled
pub mod Transformed
