pub mod AfterMoves
mod Beginning
mod Calls
mod Enters
mod Following
mod Halted
mod Installing
mod Joining
mod Looking
mod Ready
mod Running
mod Slots
mod Spawns
mod Stopping
mod Stored
mod Taking
mod Transactions
mod Waiting
