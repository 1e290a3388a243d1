use Rattle.std.proofs.Common.{◌<◌, length, ap, arith, ◌∙◌, get_or}
use Rattle.spread_stage.proofs.BesideLemmas.{length-rests}
use Rattle.reasons.proofs.ReasonLineLemmas.{month_more}
use Rattle.reasons.proofs.months.push_months.Goals as goal

pub bounds-rests-place : goal.bounds-rests-place
bounds-rests-place c =
    let long = length-rests c.args.months.now c.args.tiers.now.rests c.requires in
    omega (
      arith,
      long,
      ap length c.rests-rests.ensures.value,
      ap length c.as_slice-deltas.ensures.value,
      c.loop-place-test.true,
    )

pub loop-place-preserved : goal.loop-place-preserved
loop-place-preserved c =
    let months = c.args.months.now in
    let rests = c.args.tiers.now.rests in
    let i = c.loop-place.place in
    let m = c.index-deltas-place.result in
    let r = c.index-rests-place.result in
    let lt : i < length months = omega (arith, ap length c.as_slice-deltas.ensures.value, c.loop-place-test.true) in
    month_more months rests i m r c.args.ids.now c.args.out.now.items _ _ c.as_slice-deltas.ensures.kept.rise c.requires lt
    (c.index-deltas-place.is ∙ ap (λ xs. get_or xs i m) c.as_slice-deltas.ensures.value)
    (c.index-rests-place.is ∙ ap (λ xs. get_or xs i r) c.rests-rests.ensures.value) c.in_ok-push_month.ensures
    c.loop-place.invariant
