pub mod EqualParts
pub mod DefinitionLaws
