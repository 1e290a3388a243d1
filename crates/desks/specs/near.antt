pub mod Keeping
pub mod Closing
pub mod Blocks
pub mod Lines
