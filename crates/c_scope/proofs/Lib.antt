mod Examples
pub mod NameLemmas
pub mod TableLemmas
pub mod HistoryLemmas
pub mod KeptLemmas
