pub mod Preparations
pub mod Fitting
