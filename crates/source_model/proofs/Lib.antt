mod Texts
mod CornerTexts
mod ServerText
mod Runs
mod Corners
mod Changes
pub mod Moved
mod Greatest
mod Apart
mod Sets
pub mod Same
mod Lawful
mod Waiters
mod Journaled
mod Pieces
mod Older
mod Coming
mod Journals
pub mod Events
mod Seats
mod Offers
pub mod Soloing
mod Counted
mod Consistent
pub mod Stuck
