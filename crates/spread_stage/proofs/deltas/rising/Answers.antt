use Rattle.std.proofs.Common.{◌≡◌, ◌∙◌, ◌≤◌, ap, arith, nat_abs, rules, subst, sym}
use Rattle.std.specs.Prelude.{IfOk}
use Rattle.std.specs.List.Sorted.{IsNonDecreasingBy}
use Rattle.std.proofs.lemmas.List.Sorted.{IsNonDecreasingBy-from_sort_by_key, sum_by-IsPermutation}
use Rattle.span_tables.specs.declared.limits.TheConstants.{MAX_UNITS}
use Rattle.span_tables.proofs.StableSort.{sorted_by_closure}
use Rattle.spread_stage.specs.Months.{total_size}
use Rattle.spread_stage.specs.near.Uses.{gathered}
use Rattle.spread_stage.specs.declared.months.MonthUnits.{MonthUnits}
use Rattle.spread_stage.proofs.GatherLemmas.{gathered-sorted}
use Rattle.spread_stage.proofs.deltas.rising.Goals as goal

pub joined-requires-clause-sorted : goal.joined-requires-clause-sorted
joined-requires-clause-sorted c =
    subst (IsNonDecreasingBy (λ (m : MonthUnits). m.month)) (sym c.as_slice.ensures.value)
    (IsNonDecreasingBy-from_sort_by_key (λ (m : MonthUnits). m.month) _ c.in_ok-sort_by_key.ensures.sorted (λ a r q k. search rules))

pub joined-requires-clause-small : goal.joined-requires-clause-small
joined-requires-clause-small c =
    let same : total_size c.as_slice.result.now ≡ total_size c.args.months.items =
    ap total_size c.as_slice.ensures.value
    ∙ sum_by-IsPermutation (λ (m : MonthUnits). nat_abs m.units) c.args.months.items
    c.sort_by_key.new.self.items c.in_ok-sort_by_key.ensures.permutation in
    let small : total_size c.args.months.items ≤ MAX_UNITS = c.requires in omega (arith, same, small)

pub returns : goal.returns
returns c =
    let same : gathered c.as_slice.result.now ≡ gathered c.args.months.items =
    ap gathered (c.as_slice.ensures.value
    ∙ sorted_by_closure (λ (m : MonthUnits). m.month) _ _ c.in_ok-sort_by_key.ensures.sorted
    c.in_ok-sort_by_key.ensures.stable (λ a r q k. search rules))
    ∙ gathered-sorted (λ (m : MonthUnits). m.month) c.args.months.items in
    subst (λ xs. IfOk c.joined.result (λ months. months.items ≡ xs)) same c.joined.ensures
