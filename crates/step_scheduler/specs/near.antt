-- Definitions on which no top-level guarantee depends: forms close to the code, type invariants and samples.
pub mod Counts
pub mod Figures
pub mod Forms
pub mod Slots
pub mod Stepped
pub mod Parts
pub mod Steps
pub mod Tasks
pub mod Whole
pub mod Rows
