pub mod ReplayLaws
pub mod ScheduleLaws
