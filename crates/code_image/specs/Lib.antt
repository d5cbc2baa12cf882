pub mod StopHeights
pub mod Stacks
pub mod Acts
pub mod Images
