pub mod NamesUsed
pub mod Once
pub mod FewNames
pub mod Defined
pub mod NewBodies
pub mod Undefined
