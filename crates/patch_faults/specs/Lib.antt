pub mod Sorts
pub mod TransformTypes
pub mod TransformFaults
pub mod TransformLaws
