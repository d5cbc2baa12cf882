pub mod Expected
pub mod Notes
