pub mod DefinedUses
pub mod BodyRoom
