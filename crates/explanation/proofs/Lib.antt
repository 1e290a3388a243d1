pub mod FileLemmas
pub mod ReadLemmas
pub mod AcceptedLemmas
pub mod PlainLemmas
pub mod LineSums
pub mod StatementLaws
