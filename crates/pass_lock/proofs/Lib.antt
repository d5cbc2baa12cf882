mod Sums
mod Entries
mod Kept
mod Calls
mod Giving
mod Making
