mod Coming
mod Crews
mod Ending
mod Keeping
mod Logs
mod Rooms
