pub mod Forward
pub mod Sound
pub mod Settling
