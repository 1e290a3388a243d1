-- Definitions that test vectors unfold, which no top-level guarantee uses.
pub mod OnLiterals
