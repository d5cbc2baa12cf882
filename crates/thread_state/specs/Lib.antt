pub mod Frames
pub mod Heights
pub mod Turns
pub mod Bursts
