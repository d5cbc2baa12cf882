pub mod Depths
pub mod FormedLaws
