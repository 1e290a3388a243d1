pub mod Explanation
pub mod Laws
pub mod near
