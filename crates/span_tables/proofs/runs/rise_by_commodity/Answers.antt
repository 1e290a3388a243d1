use Rattle.std.proofs.Common.{arith, refl}
use Rattle.span_tables.specs.near.Gathered.{number_held}
use Rattle.span_tables.proofs.HeldLemmas.{all_known}
use Rattle.span_tables.proofs.RunLemmas.{rise_more}
use Rattle.span_tables.proofs.runs.rise_by_commodity.Goals as goal

pub loop-holding-init : goal.loop-holding-init
loop-holding-init c = record { rise = λ j k d le lt. absurd (omega (arith, lt)); below = λ k d lt. absurd (omega (arith, lt)) }

pub loop-holding-preserved : goal.loop-holding-preserved
loop-holding-preserved c =
    rise_more (number_held c.args.tables.now) c.args.holdings.now c.loop-holding.holding-index c.loop-holding.latest _ _
    c.loop-holding-test.true c.loop-holding.invariant c.if-commodity-latest.false c.commodity_of-commodity.ensures.value

pub returns : goal.returns
returns c = λ yes. record {
  known = all_known _ _ c.requires;
  rise = λ i j d le lt. c.loop-holding.invariant.rise i j d le (omega (arith, lt, c.loop-holding-test.false));
  same = λ k below. refl;
}
