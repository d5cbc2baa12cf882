mod Printing
pub mod Planned
pub mod DefinedUses
mod NamedWaits
pub mod Reporting
pub mod Accepting
mod Offered
pub mod HandedBack
