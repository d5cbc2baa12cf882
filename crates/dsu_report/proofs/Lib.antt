mod Examples
pub mod Lines
mod Offers
mod Parts
mod Past
