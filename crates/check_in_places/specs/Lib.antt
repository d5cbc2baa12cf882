pub mod CheckIns
pub mod LineStarts
pub mod Bodies
