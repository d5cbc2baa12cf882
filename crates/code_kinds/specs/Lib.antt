pub mod WordKinds
pub mod StopKinds
pub mod Shapes
pub mod WellFormed
