mod Returning
mod ReturningStatements
pub mod Coming
