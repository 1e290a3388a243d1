use Rattle.std.proofs.Common.{◌≡◌, ◌≤◌, ◌<◌, ◌+◌, ◌-◌, ◌+ℤ◌, ℤ, nat_abs, sym, ap, ◌∙◌, arith, get_or, set, length, List, Some}
use Rattle.std.proofs.Common.{◌++◌, ◌∷◌, [], None, rules}
use Rattle.std.specs.Prelude.{slice_get}
use Rattle.std.proofs.lemmas.Int.{ints}
use Rattle.std.proofs.lemmas.List.{get_or_default}
use Rattle.std.proofs.lemmas.List.Sums.{get_or-le-sum_by}
use Rattle.std.proofs.lemmas.Option.{get_or_from_slice_get, slice_get-get_or, slice_get_within}
use Rattle.span_tables.specs.declared.limits.TheConstants.{MAX_UNITS}
use Rattle.spread_stage.specs.Months.{total_size}
use Rattle.spread_stage.specs.declared.months.MonthUnits.{MonthUnits}
use Rattle.spread_stage.proofs.ForwardLemmas.{of_month}
use Rattle.spread_stage.proofs.GatherLemmas.{push_last, set_last}
use Rattle.spread_stage.proofs.deltas.add.Goals.{in_default-via-in-Some+else-last-month, in_default-via-in_default}
use Rattle.spread_stage.proofs.deltas.add.Goals as goal

-- the read at the last index returns the last element
last_of : (xs ms : List MonthUnits) (m : MonthUnits) → xs ≡ ms → Some m ≡ slice_get xs (length xs - 1)
    → slice_get ms (length ms - 1) ≡ Some m
last_of xs ms m same read = ap (λ (ys : List MonthUnits). slice_get ys (length ys - 1)) (sym same) ∙ sym read

pub returns-in-Some : goal.returns-in-Some
returns-in-Some c =
    let ms = c.args.months.now.items in
    let m = c.in-Some.last.now in
    let i = length ms - 1 in
    let found = last_of c.deref.result.now ms m c.deref.ensures.value c.in-Some.ensures.value in
    let inside : i < length ms = slice_get_within ms i m found in
    let at : get_or ms i m ≡ m = get_or_from_slice_get ms i m m found in
    let count : c.len-place.result - 1 ≡ i = search rules in
    let lent : c.index_mut.result.now ≡ get_or ms i c.index_mut.result.now =
    c.index_mut.ensures.value ∙ ap (λ n. get_or ms n c.index_mut.result.now) count in
    let read : c.index_mut.result.now ≡ get_or ms i m = lent ∙ get_or_default ms i c.index_mut.result.now m inside in
    let same : m.month ≡ c.args.month = c.if-last-month.true in
    let had : c.get.result ≡ (get_or ms i m).units = c.get.ensures ∙ ap (λ (x : MonthUnits). x.units) (sym at) in
    let small : nat_abs (get_or ms i m).units ≤ total_size ms = get_or-le-sum_by (λ (x : MonthUnits). nat_abs x.units) ms i m inside in
    let bound : total_size ms + nat_abs c.args.units ≤ MAX_UNITS = c.requires.small in
    let now : c.new.result ≡ (get_or ms i m).units +ℤ c.args.units = omega (arith, ints, had, small, bound, c.new.ensures) in
    let v : MonthUnits = record { month = c.index_mut.result.now.month; units = c.new.result } in
    let written : v ≡ of_month (get_or ms i m).month ((get_or ms i m).units +ℤ c.args.units) =
    ap (λ p. of_month p c.new.result) (ap (λ (x : MonthUnits). x.month) read) ∙ ap (of_month (get_or ms i m).month) now in
    ap (λ n. set ms n v) count
    ∙ set_last c.args.month c.args.units ms i m v (omega (arith, inside))
    (sym same ∙ ap (λ (x : MonthUnits). x.month) (sym at)) written

pub returns-in_ok-push-in_default : goal.returns-in_ok-push-in_default
returns-in_ok-push-in_default c =
    let ms = c.args.months.now.items in
    let units : c.new-in_default.result ≡ c.args.units = omega (arith, ints, c.new-in_default.ensures) in
    c.in_ok-push-in_default.ensures.items
    ∙ ap (λ (u : ℤ). ms ++ of_month c.args.month u ∷ []) units
    ∙ push_last c.args.month c.args.units ms (λ i d end same.
    elim c.in_default.branch [
      | in_default-via-in-Some+else-last-month w ↦
          let m = w.in-Some.last.now in
          let found = last_of c.deref.result.now ms m c.deref.ensures.value w.in-Some.ensures.value in
          let place : length ms - 1 ≡ i = omega (arith, end) in
          let at : get_or ms (length ms - 1) d ≡ m = get_or_from_slice_get ms (length ms - 1) m d found in
          w.if-last-month.false
          (ap (λ (x : MonthUnits). x.month) (sym at) ∙ ap (λ n. (get_or ms n d).month) place ∙ sym same)
      | in_default-via-in_default w ↦
          let inside : length ms - 1 < length ms = omega (arith, end) in
          let none : slice_get ms (length ms - 1) ≡ None =
          ap (λ (ys : List MonthUnits). slice_get ys (length ys - 1)) (sym c.deref.ensures.value) ∙ sym w.in_default.ensures.value in
          let some = slice_get-get_or ms (length ms - 1) d inside in cc (none, some)
    ])
