use Rattle.std.proofs.Common.{◌≡◌, ◌==◌, ◌<◌, List, ℕ, Option, Some, None, find, map, not, option_map, get_or, refl, sym, ap, ◌∙◌}
use Rattle.std.proofs.Common.{arith, subst, true}
use Rattle.std.specs.Prelude.{All, Contains, ℤ, ◌+ℤ◌, codes, nat_abs, pos, unwrap_or}
use Rattle.std.specs.Fmt.{decimal}
use Rattle.std.proofs.lemmas.Bool.Decides.{nat_tests}
use Rattle.std.proofs.lemmas.Int.{ints}
use Rattle.std.proofs.lemmas.List.{get_or-map, length-map}
use Rattle.std.proofs.lemmas.List.Elements.{All-contains_itself, All-map, filter_passes}
use Rattle.span_money.specs.LineFields.{Line}
use Rattle.span_money.proofs.ExactLaws.{exact_read_back}
use Rattle.span_tables.specs.Tables.{AcceptedTables}
use Rattle.span_tables.specs.declared.portfolios.Holding.{Holding}
use Rattle.span_tables.specs.declared.records.Spot.{Spot}
use Rattle.spread_stage.specs.Charges.{left_of, used_of}
use Rattle.spread_stage.specs.Deltas.{units_at}
use Rattle.spread_stage.specs.declared.months.MonthUnits.{MonthUnits}
use Rattle.spread_stage.proofs.FallLemmas.{spreads_shrink}
use Rattle.spread_stage.proofs.SizeLemmas.{left_le, units_at_le}
use Rattle.plan_ir.specs.Figures.{deltas_at, intras_at, spots_at, tiers_at}
use Rattle.plan_ir.proofs.FigureBounds.{deltas_at_are}
use Rattle.reasons.specs.Laws.{AgreesWithItsMonth, AreAccepted, spots_with_delta}
use Rattle.reasons.specs.Lines.{lines_of, text_at}
use Rattle.reasons.specs.Reasons.{month_reason, months_shown_at, reasons_of, spot_reason, spots_shown_at}
use Rattle.reasons.specs.declared.shown.ShownMonth.{ShownMonth}
use Rattle.reasons.specs.declared.shown.ShownSpot.{ShownSpot}
use Rattle.reasons.proofs.FieldLaws.{each_read}
use Rattle.reasons.proofs.SmallLaws.{found_has, found_is}
use Rattle.reasons.proofs.WordLaws.{month_lines, spot_lines}
use Rattle.reasons.proofs.line_laws.spot_lines_have_each_spot_month.Goals as goal

module _ (t : AcceptedTables) (holdings : List Holding) (n : ℕ) where
  abbrev shown : Spot → ShownSpot
  shown s = record {
    month = s.month;
    used = used_of (deltas_at t holdings n) (tiers_at t holdings n).rests s.month;
    spread_rate = s.spread_rate;
    left = left_of (tiers_at t holdings n).rests s.month;
    outright_rate = s.outright_rate;
  }

  -- a field of each line is the field of the record that the line was written for
  of_records : (read : Line → List ℕ) (is : Spot → List ℕ) → ((s : Spot) → read (spot_reason (shown s)) ≡ is s)
      → map read (lines_of (codes "SPOT") (reasons_of t holdings n)) ≡ map is (spots_with_delta t holdings n)
  of_records read is same =
      ap (map read) (spot_lines t holdings n)
      ∙ each_read spot_reason read (λ s. read (spot_reason s)) (spots_shown_at t holdings n) (λ k d lt. refl)
      ∙ each_read shown (λ s. read (spot_reason s)) is (spots_with_delta t holdings n) (λ k d lt. same _)

pub returns-clause-months : goal.returns-clause-months
returns-clause-months c t holdings n = of_records t holdings n (λ l. text_at l 0) (λ s. decimal s.month) (λ s. refl)

pub returns-clause-spread_rates : goal.returns-clause-spread_rates
returns-clause-spread_rates c t holdings n = of_records t holdings n (λ l. text_at l 2) (λ s. decimal s.spread_rate) (λ s. refl)

pub returns-clause-outright_rates : goal.returns-clause-outright_rates
returns-clause-outright_rates c t holdings n = of_records t holdings n (λ l. text_at l 4) (λ s. decimal s.outright_rate) (λ s. refl)

-- ---- the MONTH line of a SPOT line

abbrev units_found : Option MonthUnits → ℤ
units_found o = unwrap_or (option_map (λ (m : MonthUnits). m.units) o) (pos 0)

-- a month of the list with number p, which is also the month found by this number
record IsMonthOf (deltas : List MonthUnits) (p : ℕ) : Type 0 where
  m : MonthUnits
  among : Contains deltas m
  number : m.month ≡ p
  units : units_at deltas p ≡ m.units

-- a month whose delta is not 0 is one of the months
month_of : (deltas : List MonthUnits) (p : ℕ) → 0 < nat_abs (units_at deltas p) → IsMonthOf deltas p
month_of deltas p some = by (find (λ m. m.month == p) deltas) refl where
  by : (o : Option MonthUnits) → find (λ m. m.month == p) deltas ≡ o → IsMonthOf deltas p
  by None e = absurd (omega (arith, some, ap (λ o. nat_abs (units_found o)) e))
  by (Some m) e = record {
    m = m;
    among = found_is (Contains deltas) (λ x. x.month == p) deltas m e (All-contains_itself deltas);
    number = found_has (λ x. x.month ≡ p) (λ x. x.month == p) deltas m e (λ k d lt passes. grind (arith, nat_tests, passes));
    units = ap units_found e;
  }

contains_map : {A B : Type 0} (f : A → B) (xs : List A) (x : A) → Contains xs x → Contains (map f xs) (f x)
contains_map f xs x at =
    let long = length-map xs f in
    (at.0, omega (arith, long, at.1), get_or-map f xs at.0 x (f x) at.1 ∙ ap f at.2)

module _ (t : AcceptedTables) (holdings : List Holding) (n : ℕ) (ok : AreAccepted t holdings) where
  agrees : (s : Spot) → IsMonthOf (deltas_at t holdings n) s.month
      → AgreesWithItsMonth (reasons_of t holdings n) (spot_reason (shown t holdings n s))
  agrees s found =
      let deltas = deltas_at t holdings n in
      let rests = (tiers_at t holdings n).rests in
      let m = found.m in
      let month : ShownMonth = record { month = m.month; delta = m.units; left = units_at rests m.month } in
      let same : units_at rests s.month ≡ month.left = ap (units_at rests) (sym found.number) in
      let small = spreads_shrink (intras_at t n) deltas in
      let whole = units_at_le deltas s.month in
      let less = left_le deltas rests s.month small in
      let few = (deltas_at_are t holdings ok.limits ok.portfolio ok.known n).small in
      let left = exact_read_back 8 (pos (left_of rests s.month)) (omega (arith, whole, less, few)) in
      let used = exact_read_back 8 (pos (used_of deltas rests s.month)) (omega (arith, whole, few)) in
      let month_left = exact_read_back 8 month.left (omega (arith, whole, less, few, ap nat_abs same)) in
      let delta = exact_read_back 8 m.units (omega (arith, whole, few, ap nat_abs found.units)) in
      let sum : pos (used_of deltas rests s.month) +ℤ pos (left_of rests s.month) ≡ pos (nat_abs (units_at deltas s.month)) =
      omega (arith, ints, less) in
      record {
        month_line = month_reason month;
        shown = subst (λ ls. Contains ls (month_reason month)) (sym (month_lines t holdings n))
            (contains_map month_reason (months_shown_at t holdings n) month
            (contains_map (λ (x : MonthUnits). record { month = x.month; delta = x.units; left = units_at rests x.month }) deltas m
            found.among));
        month = ap decimal (sym found.number);
        left = left ∙ ap (λ z. pos (nat_abs z)) (same ∙ sym month_left);
        all = (λ i. used i +ℤ left i) ∙ sum ∙ ap (λ z. pos (nat_abs z)) (found.units ∙ sym delta);
      }

  agree : (s : Spot) → not (nat_abs (units_at (deltas_at t holdings n) s.month) == 0) ≡ true
      → AgreesWithItsMonth (reasons_of t holdings n) (spot_reason (shown t holdings n s))
  agree s has = agrees s (month_of (deltas_at t holdings n) s.month (grind (arith, nat_tests, has)))

pub returns-clause-month_lines : goal.returns-clause-month_lines
returns-clause-month_lines c t holdings n ok =
    let Agrees = AgreesWithItsMonth (reasons_of t holdings n) in
    let kept = spots_with_delta t holdings n in
    subst (All Agrees) (sym (spot_lines t holdings n))
    (All-map Agrees spot_reason (spots_shown_at t holdings n)
    (All-map (λ s. Agrees (spot_reason s)) (shown t holdings n) kept
    (λ k d lt. agree t holdings n ok (get_or kept k d)
    (filter_passes (λ s. not (nat_abs (units_at (deltas_at t holdings n) s.month) == 0)) (spots_at t n) k d lt))))
