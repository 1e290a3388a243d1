pub mod FaultLines
pub mod Gives
pub mod Statement
pub mod near
