pub mod EventLines
mod Examples
pub mod Found
pub mod Groups
pub mod Numbers
pub mod Pages
pub mod Pieces
pub mod Reading
pub mod Splits
