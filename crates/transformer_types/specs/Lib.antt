pub mod Views
pub mod Alone
