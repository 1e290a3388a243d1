pub mod OutcomeLemmas
pub mod BalanceLemmas
pub mod QueueLemmas
pub mod PlaceLemmas
pub mod TurnLemmas
pub mod TeamLemmas
