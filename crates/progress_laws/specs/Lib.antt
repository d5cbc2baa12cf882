pub mod Depths
pub mod ProgressLaws
