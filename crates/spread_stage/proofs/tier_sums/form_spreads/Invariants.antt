use Rattle.std.proofs.Common.{◌≡◌, ◌+◌, ◌*◌, ◌<◌, ◌≤◌, List, ℕ, get_or, length}
use Rattle.std.specs.Int.{bit_at}
use Rattle.span_tables.specs.declared.limits.TheConstants.{MAX_RATE}
use Rattle.span_tables.specs.declared.sides.Direction.{Direction}
use Rattle.span_tables.specs.near.LegIndex.{found_in}
use Rattle.span_tables.proofs.WordFolds.{AreFormed}
use Rattle.spread_stage.specs.Months.{MonthsRise, Shrinks, total_size}
use Rattle.spread_stage.specs.Spreads.{spread_both_ways, unspread}
use Rattle.spread_stage.specs.near.TierPlans.{intra_of}
use Rattle.spread_stage.specs.near.TierSums.{AreSums, IsClosed}
use Rattle.spread_stage.specs.declared.months.MonthUnits.{MonthUnits}
use Rattle.spread_stage.specs.declared.tier_plans.TierSpread.{TierSpread}
use Rattle.spread_stage.proofs.LeftOutLemmas.{IsLeftOut}
use Rattle.spread_stage.proofs.tier_sums.form_spreads.Given as goal

abbrev pub invariant-loop-number : goal.invariant-loop-number
invariant-loop-number l = record {
  formed : AreFormed (λ t s. spread_both_ways t (intra_of s)) (λ t s. IsLeftOut t (intra_of s)) l.plan.spreads.items
      (unspread l.fn.rests) (record { rests = l.rests; charge = l.charge }) l.left;
  rise : MonthsRise l.rests;
  less : l.charge + MAX_RATE * total_size l.rests ≤ MAX_RATE * total_size l.fn.rests;
  shrinks : (months : List MonthUnits) → Shrinks months l.fn.rests → Shrinks months l.rests;
  sums : AreSums l.tiers l.rests l.sums;
  closed : (k : ℕ) (e : TierSpread) (d : Direction) → k < length l.plan.spreads.items → bit_at (found_in d l.found) k ≡ 0
      → IsClosed d l.rests (intra_of (get_or l.plan.spreads.items k e));
}

abbrev pub decreases-loop-number : goal.decreases-loop-number
decreases-loop-number l = l.left
