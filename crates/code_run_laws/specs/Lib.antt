pub mod DataMatches
pub mod ThreadMatches
pub mod WorldMatches
pub mod MoveLaws
