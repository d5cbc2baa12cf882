pub mod Accepted
pub mod Told
pub mod Laws
