-- Definitions on which no top-level guarantee depends: forms close to the code, type invariants and samples.
pub mod Befores
pub mod OnLiterals
pub mod Orders
pub mod Trials
