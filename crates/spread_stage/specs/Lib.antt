pub mod Deltas
pub mod Spreads
pub mod Charges
pub mod Months
pub mod Laws
pub mod near
