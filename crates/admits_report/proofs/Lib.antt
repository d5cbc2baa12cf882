mod Adding
mod Counted
mod OneThread
mod Named
mod Blocks
