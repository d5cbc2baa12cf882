pub mod StopNames
pub mod FittingCode
