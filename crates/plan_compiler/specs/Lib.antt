pub mod Meaning
pub mod Plan
pub mod Places
pub mod Compiled
pub mod near
