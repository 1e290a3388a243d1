-- Definitions on which no top-level guarantee depends: forms close to the code, type invariants and samples.
pub mod Holdings
pub mod Ledgers
pub mod Nets
pub mod Orders
pub mod Sums
pub mod OnLiterals
pub mod Samples
pub mod Trades
