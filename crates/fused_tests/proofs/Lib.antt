pub mod RightHeights
pub mod OperatorHeights
