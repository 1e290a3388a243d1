pub mod JoinLemmas
pub mod OutcomeRowLemmas
pub mod TextLemmas
