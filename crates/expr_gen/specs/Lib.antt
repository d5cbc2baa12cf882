pub mod Scope
pub mod Kinds
pub mod Operands
pub mod Endings
pub mod Walk
