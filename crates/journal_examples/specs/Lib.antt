pub mod PinnedTexts
pub mod PinnedRun
