pub mod Trap
pub mod CheckIns
pub mod Skeleton
