pub mod Programs
pub mod TextPlans
pub mod Parts
