mod Adding
pub mod Traces
