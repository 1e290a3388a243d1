pub mod Jobs
pub mod Runs
pub mod Boards
pub mod near
pub mod Rows
