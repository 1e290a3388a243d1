-- Definitions on which no top-level guarantee depends: forms close to the code, type invariants and samples.
pub mod Bits
pub mod Fields
pub mod Reciprocals
