pub mod AllFaults
pub mod Counts
pub mod Listing
pub mod Rolls
pub mod near
pub mod Margin
