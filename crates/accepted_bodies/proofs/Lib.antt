pub mod DefinedUses
mod TreeCheckIns
mod ResolvedCheckIns
mod CoveredExpressions
mod CoveredStatements
pub mod RoomForBodies
