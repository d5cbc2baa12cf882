pub mod MoreObjects
pub mod SameUses
pub mod Places
pub mod Arguments
pub mod Stops
pub mod Moves
pub mod FirstWorld
pub mod Installed
pub mod AcceptedWorlds
pub mod Runs
pub mod Progress
mod Examples
