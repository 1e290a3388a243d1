pub mod Books
pub mod BookFaults
pub mod near
