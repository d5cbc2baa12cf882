pub mod AcceptedRuns
