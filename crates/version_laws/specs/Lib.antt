pub mod Histories
pub mod Fitting
pub mod HistoryLaws
