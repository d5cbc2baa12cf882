pub mod HandleMaps
pub mod LiveObjects
pub mod NamedObjects
mod Examples
