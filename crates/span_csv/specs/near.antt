-- Definitions on which no top-level guarantee depends: forms close to the code, type invariants and samples.
pub mod Checks
pub mod Grammar
pub mod OnLiterals
pub mod NumberedReading
pub mod OrderReading
pub mod Pieces
pub mod PlainPositions
pub mod RecordReading
pub mod Rows
pub mod Telling
