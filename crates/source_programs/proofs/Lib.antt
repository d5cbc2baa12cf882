mod Defining
pub mod Entering
mod Filled
mod Interfaces
mod Items
mod Mains
mod Numbered
pub mod Placed
pub mod Reported
