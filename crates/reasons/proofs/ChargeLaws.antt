-- The charges of a commodity are the sums of the charges that its lines show.
use Rattle.std.proofs.Common.{◌≡◌, ℕ, ◌+◌, ◌*◌, ◌^◌, Bool, true, false, cond, List, [], ◌∷◌, refl, sym, ap, ◌∙◌, arith, map, filter, sum_by}
use Rattle.std.specs.Prelude.{◌==◌, fold, nat_abs, not, pos}
use Rattle.std.specs.Int.{div_ceil}
use Rattle.std.proofs.Math.Nat.{add-mul, zero-mul}
use Rattle.std.proofs.lemmas.Bool.Decides.{nat_tests}
use Rattle.std.proofs.lemmas.List.Sums.{sum_by-append, sum_by-cons}
use Rattle.span_tables.specs.Tables.{AcceptedTables}
use Rattle.span_tables.specs.declared.portfolios.Holding.{Holding}
use Rattle.span_tables.specs.declared.records.Intra.{Intra}
use Rattle.span_tables.specs.declared.records.Spot.{Spot}
use Rattle.span_tables.specs.declared.sides.Direction.{Direction}
use Rattle.span_tables.specs.declared.sides.Direction.TheVariants.{ALong, AShort}
use Rattle.span_tables.specs.declared.sides.SpreadsFormed.{SpreadsFormed}
use Rattle.spread_stage.specs.Charges.{delivery_charge, left_of, used_of}
use Rattle.spread_stage.specs.Charges as stage
use Rattle.spread_stage.specs.Deltas.{units_at}
use Rattle.spread_stage.specs.Months.{Shrinks}
use Rattle.spread_stage.specs.Spreads.{TierRests, after_spreads, formed_both, spread_both_ways, unspread}
use Rattle.spread_stage.specs.declared.months.MonthUnits.{MonthUnits}
use Rattle.spread_stage.proofs.FallLemmas.{spreads_shrink}
use Rattle.spread_stage.proofs.SizeLemmas.{left_le}
use Rattle.spread_stage.proofs.SpreadLemmas.{charge-spread_both_ways}
use Rattle.plan_ir.specs.Figures.{deltas_at, figures_of, intras_at, spots_at, tiers_at}
use Rattle.reasons.specs.Reasons.{intras_shown_at, spots_shown_at}
use Rattle.reasons.specs.Shown.{shown_intra_charge, intra_in, intra_ways, intras_shown, shown_spot_charge, spots_shown}
use Rattle.reasons.specs.declared.shown.ShownIntra.{ShownIntra}
use Rattle.reasons.specs.declared.shown.ShownSpot.{ShownSpot}

-- ---- spreads between months

shown_if : (b : Bool) (n rate : ℕ) (s : ShownIntra) → (n == 0) ≡ b → shown_intra_charge s ≡ n * rate
    → sum_by shown_intra_charge (cond b [] (s ∷ [])) ≡ n * rate
shown_if true n rate s e is =
    let none : n ≡ 0 = grind (arith, nat_tests, e) in sym (ap (λ k. k * rate) none ∙ zero-mul rate)
shown_if false n rate s e is = let all = sum_by-cons shown_intra_charge s [] in omega (arith, all, is)

-- the charge shown for a spread in a direction is the number of spreads times the rate
charge_in : (s : Intra) (d : Direction) (n : ℕ) → sum_by shown_intra_charge (intra_in s d n) ≡ n * s.rate
charge_in s d n =
    shown_if (n == 0) n s.rate (record { priority = s.priority; direction = d; formed = n; rate = s.rate }) refl refl

charge_ways : (s : Intra) (f : SpreadsFormed) → sum_by shown_intra_charge (intra_ways s f) ≡ (f.a_long + f.a_short) * s.rate
charge_ways s f =
    let all = sum_by-append shown_intra_charge (intra_in s ALong f.a_long) (intra_in s AShort f.a_short) in
    let long = charge_in s ALong f.a_long in
    let short = charge_in s AShort f.a_short in
    let both = add-mul f.a_long f.a_short s.rate in
    omega (arith, all, long, short, both)

-- the charge after some spreads is the charge before them plus the charges shown for them
charges_shown : (spreads : List Intra) (t : TierRests)
    → (fold spread_both_ways t spreads).charge ≡ t.charge + sum_by shown_intra_charge (intras_shown spreads t)
charges_shown [] t = omega arith
charges_shown (s ∷ spreads) t =
    let next = spread_both_ways t s in
    let rest = charges_shown spreads next in
    let first = charge-spread_both_ways t s in
    let here = charge_ways s (formed_both t s) in
    let all = sum_by-append shown_intra_charge (intra_ways s (formed_both t s)) (intras_shown spreads next) in
    omega (arith, rest, first, here, all)

pub intra_shown : (t : AcceptedTables) (holdings : List Holding) (c : ℕ)
    → (figures_of t holdings c).intra ≡ pos (div_ceil (sum_by shown_intra_charge (intras_shown_at t holdings c)) (10 ^ 4))
unfolding figures_of after_spreads stage.intra_charge
intra_shown t holdings c =
    let all : (tiers_at t holdings c).charge ≡ sum_by shown_intra_charge (intras_shown_at t holdings c) =
    let e = charges_shown (intras_at t c) (unspread (deltas_at t holdings c)) in
    omega (arith, e) in
    ap (λ n. pos (div_ceil n (10 ^ 4))) all

-- ---- spot months

module _ (deltas rests : List MonthUnits) (shrinks : Shrinks deltas rests) where
  abbrev shown : Spot → ShownSpot
  shown s = record {
    month = s.month;
    used = used_of deltas rests s.month;
    spread_rate = s.spread_rate;
    left = left_of rests s.month;
    outright_rate = s.outright_rate;
  }

  abbrev is_shown : Spot → Bool
  is_shown s = not (nat_abs (units_at deltas s.month) == 0)

  spot_if : (b : Bool) (s : Spot) (spots : List Spot) → (nat_abs (units_at deltas s.month) == 0) ≡ b
      → sum_by shown_spot_charge (map shown (cond (not b) (s ∷ spots) spots))
      ≡ stage.spot_charge deltas rests s + sum_by shown_spot_charge (map shown spots)
  spot_if true s spots e =
      let none : nat_abs (units_at deltas s.month) ≡ 0 = grind (arith, nat_tests, e) in
      let within = left_le deltas rests s.month shrinks in
      let left : left_of rests s.month ≡ 0 = omega (arith, none, within) in
      let used : used_of deltas rests s.month ≡ 0 = omega (arith, none) in
      let a = ap (λ n. n * s.spread_rate) used ∙ zero-mul s.spread_rate in
      let b = ap (λ n. n * s.outright_rate) left ∙ zero-mul s.outright_rate in
      omega (arith, a, b)
  spot_if false s spots e = sum_by-cons shown_spot_charge (shown s) (map shown spots)

  -- the sum of the charges of all spot months is the sum over the spot months shown
  spots_charged : (spots : List Spot) → sum_by (stage.spot_charge deltas rests) spots
      ≡ sum_by shown_spot_charge (spots_shown deltas rests spots)
  spots_charged [] = refl
  spots_charged (s ∷ spots) =
      let all = sum_by-cons (stage.spot_charge deltas rests) s spots in
      let here = spot_if (nat_abs (units_at deltas s.month) == 0) s (filter is_shown spots) refl in
      let rest = spots_charged spots in
      omega (arith, all, here, rest)

pub delivery_shown : (t : AcceptedTables) (holdings : List Holding) (c : ℕ)
    → (figures_of t holdings c).delivery ≡ pos (div_ceil (sum_by shown_spot_charge (spots_shown_at t holdings c)) (10 ^ 8))
unfolding figures_of delivery_charge
delivery_shown t holdings c =
    let shrinks = spreads_shrink (intras_at t c) (deltas_at t holdings c) in
    ap (λ n. pos (div_ceil n (10 ^ 8)))
    (spots_charged (deltas_at t holdings c) (tiers_at t holdings c).rests shrinks (spots_at t c))
