use Rattle.std.proofs.Common.{◌≡◌, ◌<◌, ℕ}
use Rattle.span_tables.specs.declared.sides.MarketSide.{MarketSide}
use Rattle.spread_stage.specs.near.TierSums.{no_span, span_of, sum_of}
use Rattle.spread_stage.proofs.tier_sums.TierSums.clear.Given as goal

abbrev pub invariant-loop-tier : goal.invariant-loop-tier
invariant-loop-tier l = record {
  sums : (on : MarketSide) (k : ℕ) → k < l.tier → sum_of l.self on k ≡ 0;
  spans : (k : ℕ) → k < l.tier → span_of l.self k ≡ no_span;
}
