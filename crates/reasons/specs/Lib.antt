pub mod Laws
pub mod Lines
pub mod Reasons
pub mod Shown
pub mod near
