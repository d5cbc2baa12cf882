pub mod Kind
pub mod Number
pub mod Arithmetic
pub mod Literal
