pub mod BeginningLemmas
pub mod HistoryLemmas
