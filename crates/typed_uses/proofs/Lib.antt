pub mod Points
pub mod Faultless
pub mod SoundTexts
pub mod Lookups
pub mod Definitions
pub mod Locals
pub mod Agreement
pub mod Nodes
pub mod NamedNodes
pub mod Expressions
pub mod Statements
pub mod Identifiers
pub mod DeclaredNames
pub mod Uses
mod Examples
