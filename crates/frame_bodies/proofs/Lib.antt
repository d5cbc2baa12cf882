pub mod Lists
pub mod Sound
pub mod ResolvedSame
pub mod TypedExpressions
pub mod TypedStatements
pub mod Looked
pub mod AcceptedFacts
pub mod OldBodies
pub mod OnlyOnce
pub mod BodyLists
pub mod Stores
pub mod CallPoints
pub mod Shapes
pub mod Frames
mod Examples
