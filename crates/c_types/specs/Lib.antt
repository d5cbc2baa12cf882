pub mod Statements
pub mod Views
pub mod TransformSyntax
pub mod Definitions
