pub mod BatchLemmas
pub mod BookLemmas
