pub mod MoveRecords
pub mod RecordedRuns
