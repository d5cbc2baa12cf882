mod Examples
pub mod EventLines
pub mod Found
pub mod Newlines
mod Numbers
pub mod Pages
pub mod Pieces
pub mod Reading
