mod KeepLemmas
mod RequestLemmas
mod TakingLemmas
pub mod DealingLemmas
