-- Definitions on which no top-level guarantee depends: forms close to the code, type invariants and samples.
pub mod ByKind
pub mod Gathered
pub mod Kept
pub mod LegIndex
pub mod Limits
pub mod NamePlaces
pub mod Orders
pub mod Positions
pub mod Runs
pub mod Samples
pub mod Terms
