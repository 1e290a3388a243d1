pub mod AccountLemmas
pub mod BindingLemmas
pub mod FitLemmas
