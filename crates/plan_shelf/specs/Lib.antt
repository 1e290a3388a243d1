pub mod Publications
pub mod near
