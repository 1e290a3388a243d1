use Rattle.std.proofs.Common.{◌∙◌, ap, subst, sym}
use Rattle.spread_stage.specs.Deltas.{units_at}
use Rattle.spread_stage.specs.Months.{MonthsRise}
use Rattle.spread_stage.proofs.BesideLemmas.{found_at}
use Rattle.spread_stage.proofs.SizeLemmas.{shrinks_none}
use Rattle.spread_stage.proofs.charges.month_units.Goals as goal

pub returns : goal.returns
returns c =
    let months = c.as_slice-months.result.now in
    found_at months months (subst MonthsRise (sym c.as_slice-months.ensures.value) c.as_slice-months.ensures.kept.rise)
    (shrinks_none months) c.first_from-first.result c.args.month
    c.index-months-first.result (c.is_at.ensures.within c.if-not-is_at.false) (c.is_at.ensures.at c.if-not-is_at.false)
    ∙ ap (λ ms. units_at ms c.args.month) c.as_slice-months.ensures.value
