pub mod Chains
pub mod Constraints
pub mod Laws
pub mod Nets
pub mod Passing
pub mod Places
pub mod Waiting
