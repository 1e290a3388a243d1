pub mod AllFaultLemmas
pub mod RollLemmas
pub mod BatchRowLemmas
