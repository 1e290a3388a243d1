-- Implementation-level specifications, on which no guarantee depends: samples, and definitions to unfold.
pub mod Fronts
pub mod OnLiterals
pub mod Samples
pub mod SpanFaults
