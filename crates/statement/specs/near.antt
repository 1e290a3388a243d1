-- Implementation-level specifications, on which no guarantee depends: definitions to unfold, halves of a roll, and type
-- invariants.
pub mod OnLiterals
pub mod Seconds
pub mod InBook
