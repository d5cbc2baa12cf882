pub mod Tests
pub mod Meetings
pub mod ExpressionsAlone
pub mod TextsAlone
pub mod FirstFaults
