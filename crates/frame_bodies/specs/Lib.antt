pub mod AcceptedTexts
pub mod ByUses
pub mod Unchanged
pub mod InForce
pub mod FramesOfTexts
pub mod Ends
pub mod CalledFunctions
pub mod Shapes
