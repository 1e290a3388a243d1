-- Definitions on which no top-level guarantee depends: forms close to the code, type invariants and samples.
pub mod Keys
pub mod NamedRules
pub mod Overlaps
pub mod Samples
