pub mod FrameWords
pub mod TurnLaws
pub mod BurstLaws
mod Examples
