pub mod Figures
pub mod Values
pub mod Apply
pub mod Plans
pub mod near
pub mod Listing
