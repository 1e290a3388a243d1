-- Definitions on which no top-level guarantee depends: forms close to the code, type invariants and samples.
pub mod Copying
pub mod Nothing
pub mod Noting
pub mod OnLiterals
pub mod Packing
pub mod Samples
