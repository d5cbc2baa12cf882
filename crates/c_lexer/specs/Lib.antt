pub mod Bytes
pub mod Words
pub mod Numbers
pub mod Units
pub mod Prefixes
pub mod Cut
pub mod Compute
