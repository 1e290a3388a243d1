pub mod Credits
pub mod Requirement
pub mod OptionValue
pub mod States
pub mod near
