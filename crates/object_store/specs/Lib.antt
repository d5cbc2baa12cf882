pub mod Handles
pub mod Stores
pub mod Rows
pub mod Lends
pub mod Naming
pub mod Cells
