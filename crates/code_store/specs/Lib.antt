pub mod Limits
pub mod Stored
pub mod Uses
pub mod StoreLaws
