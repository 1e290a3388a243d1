pub mod Records
pub mod Cuts
pub mod ParamFaults
pub mod PositionFaults
pub mod OrderFaults
pub mod Laws
pub mod FaultTexts
pub mod near
