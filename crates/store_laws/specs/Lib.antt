pub mod LockLaws
pub mod HandleLaws
