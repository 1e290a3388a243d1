pub mod AcceptedFiles
pub mod FaultLemmas
pub mod FrontLemmas
pub mod ProfileLemmas
