mod Generating
mod Unmarking
mod Summing
