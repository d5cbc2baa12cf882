pub mod WordRows
pub mod FrameLists
pub mod FrameCalls
