mod Stepping
mod Printed
pub mod SourcesCross
