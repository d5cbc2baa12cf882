pub mod Ids
pub mod Bodies
pub mod Places
pub mod Ways
pub mod PointKinds
pub mod FlowPoints
