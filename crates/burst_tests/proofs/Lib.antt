pub mod RightHeights
