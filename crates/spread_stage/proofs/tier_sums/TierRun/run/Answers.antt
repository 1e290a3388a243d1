use Rattle.std.proofs.Common.{◌≡◌, ◌++◌, List, ap, ◌∙◌, fold, map, rules, subst, sym}
use Rattle.std.specs.Vec.{with_items}
use Rattle.std.proofs.lemmas.List.{with_items_is}
use Rattle.spread_stage.specs.Months.{Shrinks}
use Rattle.spread_stage.specs.Spreads.{TierRests, after_spreads, spread_both_ways, unspread}
use Rattle.spread_stage.specs.near.TierPlans.{intra_of}
use Rattle.spread_stage.specs.declared.months.MonthUnits.{MonthUnits}
use Rattle.spread_stage.proofs.SetPlanLemmas.{tiers_are}
use Rattle.spread_stage.proofs.SizeLemmas.{shrinks_none}
use Rattle.spread_stage.proofs.tier_sums.TierRun.run.Goals as goal

pub add_months-sides-requires-clause-tiers : goal.add_months-sides-requires-clause-tiers
add_months-sides-requires-clause-tiers c = tiers_are c.args.tiers.now c.requires.few c.requires.apart

pub form_spreads-self-inside-requires-clause-tiers : goal.form_spreads-self-inside-requires-clause-tiers
form_spreads-self-inside-requires-clause-tiers c = tiers_are c.args.tiers.now c.requires.few c.requires.apart

pub returns-clause-value : goal.returns-clause-value
unfolding after_spreads
returns-clause-value c =
    let new = c.form_spreads-self-inside.new.rests in
    let same : (with_items c.extend_from_slice.new.self new).items ≡ new = with_items_is c.extend_from_slice.new.self new (search rules) in
    let start : c.deref_mut.result.now ≡ c.args.months.now =
    c.deref_mut.ensures.value ∙ c.in_ok-extend_from_slice.ensures.items
    ∙ ap (λ (xs : List MonthUnits). xs ++ c.as_slice-months.result.now) c.clear.ensures.items ∙ c.as_slice-months.ensures.value in
    ap (λ (rs : List MonthUnits). let t : TierRests = record { rests = rs; charge = c.form_spreads-self-inside.result } in t) same
    ∙ c.form_spreads-self-inside.ensures.value
    ∙ ap (λ (ms : List MonthUnits). fold spread_both_ways (unspread ms) (map intra_of c.args.plan.now.spreads.items)) start

pub returns-clause-shrinks : goal.returns-clause-shrinks
returns-clause-shrinks c =
    let months = c.args.months.now in
    let new = c.form_spreads-self-inside.new.rests in
    let same : (with_items c.extend_from_slice.new.self new).items ≡ new = with_items_is c.extend_from_slice.new.self new (search rules) in
    let start : c.deref_mut.result.now ≡ c.args.months.now =
    c.deref_mut.ensures.value ∙ c.in_ok-extend_from_slice.ensures.items
    ∙ ap (λ (xs : List MonthUnits). xs ++ c.as_slice-months.result.now) c.clear.ensures.items ∙ c.as_slice-months.ensures.value in
    subst (Shrinks months) (sym same)
    (c.form_spreads-self-inside.ensures.shrinks months (subst (Shrinks months) (sym start) (shrinks_none months)))
