-- Implementation-level specifications, on which no guarantee depends: the content of two accepted files.
pub mod Accepting
