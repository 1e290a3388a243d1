use Rattle.std.proofs.Common.{◌≡◌, ◌∙◌, ◌≤◌, ◌<◌, ◌+◌, ◌++◌, ◌∷◌, [], nat_abs, sym, ap, subst, arith, length, get_or, take, rules, lit<}
use Rattle.std.proofs.lemmas.List.{get_or_read, take_all, take_more}
use Rattle.std.proofs.lemmas.List.Sums.{get_or-le-sum_by, sum_by-append}
use Rattle.span_money.proofs.WordLemmas.{same_64}
use Rattle.span_tables.specs.declared.limits.TheConstants.{MAX_UNITS}
use Rattle.spread_stage.specs.Months.{MonthsRise, total_size}
use Rattle.spread_stage.specs.near.Uses.{gathered, with_units, with_units_last}
use Rattle.spread_stage.specs.declared.months.MonthUnits.{MonthUnits}
use Rattle.spread_stage.proofs.GatherLemmas.{NoneLater, gathered-last, gathered-push, gathered-rise}
use Rattle.spread_stage.proofs.GatherLemmas.{none_later_after, none_later_than, rise_after, size-last}
use Rattle.spread_stage.proofs.deltas.joined.Goals as goal

pub loop-i-preserved : goal.loop-i-preserved
loop-i-preserved c =
    let ms = c.args.sorted.now in
    let i = c.loop-i.i in
    let had = c.loop-i.months.items in
    let m = c.index-sorted-i.result in
    let lt : i < length ms = search rules in
    let at : (d : MonthUnits) → get_or ms i d ≡ m = λ d. sym (get_or_read ms i m lt (search rules) d) in
    let units : c.get.result ≡ m.units = search rules in
    let one : nat_abs (get_or ms i m).units ≤ total_size ms = get_or-le-sum_by (λ (x : MonthUnits). nat_abs x.units) ms i m lt in
    let bound : nat_abs c.get.result ≤ MAX_UNITS =
    let same : nat_abs c.get.result ≡ nat_abs (get_or ms i m).units =
    ap nat_abs units ∙ ap (λ (x : MonthUnits). nat_abs x.units) (sym (at m)) in
    let all : total_size ms ≤ MAX_UNITS = c.requires.small in omega (arith, one, same, all) in
    let kept = same_64 c.get.result MAX_UNITS bound (lit< tt) in
    let added : c.add.new.months.items ≡ with_units_last m.month m.units had =
    c.in_ok-add.ensures ∙ ap (λ u. with_units_last m.month u had) (kept ∙ units) in
    let more : take (i + 1) ms ≡ take i ms ++ m ∷ [] =
    take_more ms i m lt ∙ ap (λ (x : MonthUnits). take i ms ++ x ∷ []) (at m) in
    let here : NoneLater m.month had =
    subst (λ (x : MonthUnits). NoneLater x.month had) (at m) (c.loop-i.invariant.earlier i m (omega arith) lt) in
    let after = none_later_after m.month m.units had here in
    let larger = size-last m.month m.units had in
    let size_now : total_size c.add.new.months.items ≡ total_size (with_units_last m.month m.units had) = ap total_size added in
    let size_more : total_size (take (i + 1) ms) ≡ total_size (take i ms ++ m ∷ []) = ap total_size more in
    let parts = sum_by-append (λ (x : MonthUnits). nat_abs x.units) (take i ms) (m ∷ []) in
    let before : total_size had ≤ total_size (take i ms) = c.loop-i.invariant.small in
    record {
      value = ap gathered added ∙ gathered-last m.month m.units had ∙ ap (with_units m.month m.units) c.loop-i.invariant.value
          ∙ sym (gathered-push (take i ms) m) ∙ ap gathered (sym more);
      rise = subst MonthsRise (sym added) (rise_after m.month m.units had c.loop-i.invariant.rise here);
      earlier = λ j d le below.
          let order = c.requires.sorted i j d (omega (arith, le)) below in
          let later : m.month ≤ (get_or ms j d).month =
          subst (λ (x : MonthUnits). x.month ≤ (get_or ms j d).month) (at d) order in
          subst (NoneLater (get_or ms j d).month) (sym added)
          (none_later_than m.month (get_or ms j d).month (with_units_last m.month m.units had) later after);
      small = omega (arith, larger, size_now, size_more, parts, before);
    }

pub returns : goal.returns
returns c =
    let ms = c.args.sorted.now in
    let done : length ms ≤ c.loop-i.i = search rules in
    let all : take c.loop-i.i ms ≡ ms = take_all c.loop-i.i ms done in
    sym (gathered-rise c.loop-i.months.items c.loop-i.invariant.rise) ∙ c.loop-i.invariant.value ∙ ap gathered all
