pub mod Declared
pub mod Growing
pub mod Naming
pub mod Sizes
