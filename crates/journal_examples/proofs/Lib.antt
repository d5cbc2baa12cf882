pub mod Straight
pub mod RowTests
pub mod PinnedRows
pub mod RowsInForce
pub mod PinnedPlay
mod PinnedSchedule
