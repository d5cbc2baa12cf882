mod Adding
mod Loops
mod NamedSpots
mod Rows
mod Sizes
mod StatementParts
mod StepOrder
mod Unions
