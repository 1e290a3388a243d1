use Rattle.std.proofs.Common.{◌≡◌, ◌≤◌, ◌<◌, ◌+◌, ◌*◌, ◌++◌, nat_abs, sym, ap, ◌∙◌, subst, arith, length}
use Rattle.std.proofs.Common.{take, suc, ◌∷◌, [], lit<, ℤ, ◌*ℤ◌, FitsSigned, to_z, of_z, w64, rules, true, leb}
use Rattle.std.proofs.lemmas.Bool.Decides.{nat_tests}
use Rattle.std.proofs.lemmas.List.{take_all}
use Rattle.std.proofs.Math.Seq.{take-suc}
use Rattle.std.proofs.lemmas.Int.{to_z-of_z}
use Rattle.std.proofs.lemmas.Result.{IfOk-weaker}
use Rattle.span_money.proofs.WordLemmas.{same_64}
use Rattle.span_tables.specs.Net.{HeldContract}
use Rattle.span_tables.specs.declared.limits.TheConstants.{MAX_DELTA, MAX_NET, MAX_SCALE}
use Rattle.span_tables.proofs.HeldLemmas.{held_here}
use Rattle.spread_stage.specs.Months.{AreMonths, MonthsRise, total_size}
use Rattle.spread_stage.specs.Deltas.{month_deltas, units_of}
use Rattle.spread_stage.specs.near.Uses.{gathered, with_units, with_units_last}
use Rattle.spread_stage.proofs.SpreadBounds.{months_are}
use Rattle.spread_stage.proofs.ForwardLemmas.{month_deltas-push}
use Rattle.spread_stage.proofs.DeltaLemmas.{times_scaled}
use Rattle.spread_stage.proofs.GatherLemmas.{NoneLater, gathered-last, gathered-rise, none_later_after, none_later_than}
use Rattle.spread_stage.proofs.GatherLemmas.{rise_after, size-last}
use Rattle.spread_stage.proofs.deltas.refilled.Goals.{then-rise, else-rise}
use Rattle.spread_stage.proofs.deltas.refilled.Goals as goal

pub loop-i-preserved : goal.loop-i-preserved
loop-i-preserved c =
    let held = c.args.held.now in
    let i = c.loop-i.i in
    let had = c.loop-i.months.items in
    let of = c.terms-terms.result.now in
    let month = of.month in
    let lt : i < length held = search rules in
    let here = held_here held i of c.net.result lt c.terms-terms.ensures.value c.net.ensures.value in
    let h = here.0 in
    let at = here.1 in
    let one : i + 1 ≡ suc i = omega arith in
    let more : take (i + 1) held ≡ take i held ++ h ∷ [] =
    ap (λ n. take n held) one ∙ take-suc held i h lt ∙ ap (λ (x : HeldContract). take i held ++ x ∷ []) (sym at) in
    let fits : FitsSigned w64 c.net.result = search rules in
    let same_net : to_z w64 (of_z w64 c.net.result) ≡ c.net.result = to_z-of_z w64 c.net.result fits in
    let units : c.units_of.result ≡ units_of h =
    c.units_of.ensures.value ∙ ap (λ (n : ℤ). n *ℤ of.units) same_net ∙ (λ j. here.3 j *ℤ here.2.units j)
    ∙ times_scaled h.net (h.contract).delta (h.contract).scale in
    let bound : nat_abs c.units_of.result ≤ MAX_NET * MAX_DELTA * MAX_SCALE = c.units_of.ensures.bound in
    let kept = same_64 c.units_of.result (MAX_NET * MAX_DELTA * MAX_SCALE) bound (lit< tt) in
    let added : c.add.new.months.items ≡ with_units_last month c.units_of.result had =
    c.in_ok-add.ensures ∙ ap (λ u. with_units_last month u had) kept in
    let larger = size-last month c.units_of.result had in
    let same : total_size c.add.new.months.items ≡ total_size (with_units_last month c.units_of.result had) = ap total_size added in
    let before : total_size had ≤ i * (MAX_NET * MAX_DELTA * MAX_SCALE) = c.loop-i.invariant.small in
    record {
      value = ap gathered added ∙ gathered-last month c.units_of.result had
          ∙ ap (λ u. with_units month u (gathered had)) units
          ∙ ap (with_units month (units_of h)) c.loop-i.invariant.value
          ∙ ap (λ m. with_units m (units_of h) (month_deltas (take i held))) here.2.month
          ∙ month_deltas-push (take i held) h ∙ ap month_deltas (sym more);
      rise = λ yes.
          elim c.if-rise.branch [
            | then-rise w ↦
                let up = c.loop-i.invariant.rise w.if-rise.true in
                let test : leb c.loop-i.latest month ≡ true = sym w.rise-is ∙ yes in
                let le : c.loop-i.latest ≤ month = grind (arith, nat_tests, test) in
                let here = none_later_than c.loop-i.latest month had le up.1 in (
                  subst MonthsRise (sym added) (rise_after month c.units_of.result had up.0 here),
                  subst (NoneLater month) (sym added) (none_later_after month c.units_of.result had here),
                )
            | else-rise w ↦ let no = sym w.rise-is ∙ yes in cc (no, w.if-rise.false)
          ];
      small = omega (arith, larger, same, bound, before);
    }

-- after the loop over all contracts, the list contains their month deltas
pub returns-then-rise-2-clause-value : goal.returns-then-rise-2-clause-value
returns-then-rise-2-clause-value c =
    let up = c.loop-i.invariant.rise c.if-rise-2.true in
    sym (gathered-rise c.loop-i.months.items up.0) ∙ c.loop-i.invariant.value
    ∙ ap month_deltas (take_all c.loop-i.i c.args.held.now (search rules))

pub returns-then-rise-2-clause-kept : goal.returns-then-rise-2-clause-kept
returns-then-rise-2-clause-kept c =
    subst AreMonths (sym (returns-then-rise-2-clause-value c)) (months_are c.args.held.now c.len.ensures.kept)

pub returns-clause-value : goal.returns-clause-value
returns-clause-value c =
    IfOk-weaker c.rising.result (λ rising. rising.items ≡ gathered c.loop-i.months.items)
    (λ months. months.items ≡ month_deltas c.args.held.now)
    (λ months same. same ∙ c.loop-i.invariant.value ∙ ap month_deltas (take_all c.loop-i.i c.args.held.now (search rules)))
    c.rising.ensures

pub returns-clause-kept : goal.returns-clause-kept
returns-clause-kept c =
    IfOk-weaker c.rising.result (λ months. months.items ≡ month_deltas c.args.held.now) (λ months. AreMonths months.items)
    (λ months same. subst AreMonths (sym same) (months_are c.args.held.now c.len.ensures.kept)) (returns-clause-value c)
