pub mod Needs
pub mod CodeOfRuns
pub mod Compiled
pub mod Works
