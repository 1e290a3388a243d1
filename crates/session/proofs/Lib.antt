mod AnswerLemmas
mod BookLemmas
mod BoundAgainLemmas
mod CarriedLemmas
mod CarryLemmas
mod ConversationLaws
mod CutLemmas
mod FieldLemmas
mod FormLemmas
mod KeepLemmas
mod KeptStateLemmas
mod LowerCaseLemmas
mod ReadAgainLemmas
mod ReadStateLemmas
mod SessionLemmas
mod TradeLemmas
pub mod AccountLemmas
pub mod ConversationLemmas
pub mod TurnLemmas
