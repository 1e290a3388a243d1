-- Definitions on which no top-level guarantee depends: forms close to the code, type invariants and samples.
pub mod Beginnings
pub mod Layout
pub mod OnLiterals
pub mod Ready
pub mod Samples
pub mod Sets
