pub mod Beginnings
pub mod Kept
pub mod SpanLaws
