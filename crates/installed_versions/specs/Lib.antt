pub mod Installed
pub mod Firsts
