pub mod TransformedHandles
pub mod Transformed
pub mod AcceptedTexts
