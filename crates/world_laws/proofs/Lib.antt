pub mod TypedValues
pub mod Found
pub mod Cells
pub mod Storing
pub mod StoresAhead
pub mod StoresOn
pub mod DeclaredNames
pub mod TypedExpressions
pub mod TypedBodies
pub mod Threads
pub mod WorldsStore
pub mod Moves
pub mod Accepted
pub mod Runs
mod Examples
