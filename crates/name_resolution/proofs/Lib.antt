pub mod Kept
mod Resolving
