pub mod EffectsText
pub mod Shown
pub mod Tables
pub mod Writing
