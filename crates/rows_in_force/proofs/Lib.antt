pub mod BodiesByIds
pub mod ReachedCheckIns
pub mod LaterBodies
pub mod Entries
pub mod PassedRows
