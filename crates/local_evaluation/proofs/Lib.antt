mod Examples
mod Following
mod Leaving
mod StepLaws
pub mod Variables
