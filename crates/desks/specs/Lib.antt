pub mod Requests
pub mod Events
pub mod Takings
pub mod Desks
pub mod near
