pub mod CodePoints
pub mod CodeWays
pub mod PointLaws
