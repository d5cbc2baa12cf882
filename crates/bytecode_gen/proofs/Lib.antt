pub mod Preceding
pub mod Scoping
pub mod Rows
pub mod StatementCode
pub mod LoopCode
pub mod BodyCode
pub mod Walking
