pub mod Places
pub mod CopiedNames
pub mod SameContents
