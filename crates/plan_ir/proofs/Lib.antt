pub mod PackingLemmas
pub mod UserLemmas
pub mod UserLaws
pub mod PlaceLemmas
pub mod FigureBounds
pub mod LegLemmas
pub mod NothingLemmas
pub mod ValueLaws
