pub mod TypedFrames
pub mod TypedWorlds
pub mod TypedRunLaws
pub mod Progress
