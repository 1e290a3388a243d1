pub mod Scenarios
pub mod near
