pub mod Faults
pub mod Sets
pub mod Tables
pub mod Versions
