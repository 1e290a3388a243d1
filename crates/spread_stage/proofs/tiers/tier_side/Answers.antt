use Rattle.std.proofs.Common.{◌≡◌, ◌≤◌, ◌∙◌, arith, cond, rules, sum_by}
use Rattle.span_tables.specs.Sides.{part_on}
use Rattle.span_tables.specs.declared.limits.TheConstants.{MAX_UNITS}
use Rattle.spread_stage.specs.Spreads.{is_in_tier}
use Rattle.spread_stage.specs.declared.months.MonthUnits.{MonthUnits}
use Rattle.spread_stage.proofs.SizeLemmas.{tier_side-le}
use Rattle.spread_stage.proofs.UseLaws.{side_is_sum}
use Rattle.spread_stage.proofs.tiers.tier_side.Goals as goal

pub sum-requires-clause-fits : goal.sum-requires-clause-fits
sum-requires-clause-fits c =
    let same = side_is_sum c.args.on c.args.leg.now c.args.rests.now in
    let less = tier_side-le c.args.on c.args.leg.now c.args.rests.now in
    let small : sum_by (λ (m : MonthUnits). cond (is_in_tier c.args.leg.now m) (part_on c.args.on m.units) 0) c.args.rests.now
    ≤ MAX_UNITS = omega (arith, same, less, c.requires) in
    search (rules, small)

pub returns : goal.returns
returns c =
    let sum : c.sum.result
    ≡ sum_by (λ (m : MonthUnits). cond (is_in_tier c.args.leg.now m) (part_on c.args.on m.units) 0) c.args.rests.now = search rules in
    sum ∙ side_is_sum c.args.on c.args.leg.now c.args.rests.now
