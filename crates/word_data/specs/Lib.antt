pub mod Stacks
pub mod Kept
pub mod Resolved
pub mod Lengths
pub mod Performing
