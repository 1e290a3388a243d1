pub mod StageLemmas
pub mod Meanings
pub mod Taken
pub mod LayoutLemmas
pub mod FromPlan
pub mod Wiring
pub mod PlanLaw
pub mod CounterLemmas
