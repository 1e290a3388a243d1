pub mod near
