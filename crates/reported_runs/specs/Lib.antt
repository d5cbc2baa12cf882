pub mod Offers
pub mod Schedules
