mod Acting
pub mod Books
pub mod Coming
mod Ends
pub mod Happening
mod Offering
mod Replaying
pub mod Room
pub mod Seats
pub mod Slots
mod Soloing
pub mod Standing
mod Stepping
mod Turning
mod Finishing
