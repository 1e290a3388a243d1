pub mod CreditLaws
pub mod LegLaws
pub mod MinimumLaws
pub mod ValueLemmas
pub mod OnLiterals
pub mod RestLaws
pub mod WeightLaws
pub mod Sizes
pub mod SpreadLemmas
pub mod StateLemmas
mod NothingFormed
mod IndexLemmas
mod LoadedLemmas
mod BlockLemmas
pub mod OpenLemmas
pub mod DirectionLaws
pub mod CreditBounds
pub mod KeptLemmas
