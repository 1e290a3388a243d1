-- Definitions on which no top-level guarantee depends: forms close to the code, type invariants and samples.
pub mod Samples
pub mod SetPlans
pub mod TierPlans
pub mod TierSums
pub mod Uses
pub mod SpotIndex
