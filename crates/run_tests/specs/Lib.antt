pub mod SmallRun
pub mod ReadTexts
