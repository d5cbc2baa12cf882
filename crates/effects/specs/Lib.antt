pub mod Sites
pub mod Standard
pub mod Nested
pub mod Contextual
pub mod Concrete
pub mod Rows
pub mod GrowthLaws
pub mod LeastLaws
