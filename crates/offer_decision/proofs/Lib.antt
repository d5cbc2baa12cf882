pub mod Filled
pub mod NamesOfIds
pub mod ChangedNames
pub mod Slots
mod PinsSet
mod Whole
pub mod Refusals
pub mod Decided
