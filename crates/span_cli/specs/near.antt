-- Definitions on which no top-level guarantee depends: forms close to the code, type invariants and samples.
pub mod Memory
pub mod NextWords
pub mod OnLiterals
pub mod Refusals
pub mod Rows
pub mod Sessions
