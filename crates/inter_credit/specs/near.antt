-- Definitions on which no top-level guarantee depends: forms close to the code, type invariants and samples.
pub mod CommodityStates
pub mod Index
pub mod Open
pub mod Rooms
pub mod Samples
