pub mod CheckFaults
pub mod FaultLaws
pub mod near
