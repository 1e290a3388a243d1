-- Implementation-level specifications, on which no guarantee depends: results of calls, type invariants, definitions to
-- unfold, samples.
pub mod Answering
pub mod Carried
pub mod FieldTests
pub mod InUse
pub mod Kept
pub mod KeptStates
pub mod OnLiterals
pub mod Samples
