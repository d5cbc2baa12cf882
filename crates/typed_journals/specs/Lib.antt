pub mod TypedJournals
