pub mod Whatif
pub mod near
