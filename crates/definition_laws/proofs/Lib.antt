pub mod Tests
pub mod SameTrees
pub mod SameDefinitions
pub mod Names
pub mod ChangedNames
mod Examples
