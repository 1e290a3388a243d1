-- The sums of tiers while months are added to them, in order.
use Rattle.std.proofs.Common.{◌≡◌, ℕ, ◌+◌, ◌<◌, ◌≤◌, ◌==◌, Bool, true, false, cond, List, [], ◌∷◌}
use Rattle.std.proofs.Common.{refl, sym, ap, ◌∙◌, subst, arith, get_or, inl, inr, length, take}
use Rattle.std.specs.Prelude.{◌⊎◌, ℤ, nat_abs, negsuc, pos}
use Rattle.std.specs.List.{position_or_len}
use Rattle.std.proofs.lemmas.Bool.{cases_lt}
use Rattle.std.proofs.lemmas.Bool.Decides.{nat_tests}
use Rattle.std.proofs.lemmas.List.{get_or-take, get_or_default, length-take, take_more}
use Rattle.std.proofs.lemmas.List.Sums.{sum_by-append, sum_by-cons, sum_by-take-drop}
use Rattle.span_tables.specs.Sides.{part_on}
use Rattle.span_tables.specs.Slots.{IsMarked, IsOpenAt, numbers_on}
use Rattle.span_tables.specs.declared.legs.MonthLeg.{MonthLeg}
use Rattle.span_tables.specs.declared.limits.TheConstants.{MAX_TIERS, MAX_UNITS}
use Rattle.span_tables.specs.declared.records.Tier.{Tier}
use Rattle.span_tables.specs.declared.sides.MarketSide.{MarketSide}
use Rattle.span_tables.specs.declared.sides.MarketSide.TheVariants.{Long, Short}
use Rattle.span_tables.specs.declared.slots.OpenSides.{OpenSides}
use Rattle.spread_stage.specs.Months.{AreMonths, total_size}
use Rattle.spread_stage.specs.Spreads.{is_in_tier, tier_side}
use Rattle.spread_stage.specs.near.TierPlans.{tier_at}
use Rattle.spread_stage.specs.near.TierSums.{AreOpen, AreSums, AreTiers, has_month, months_of, no_span, span_of, span_with, sum_of}
use Rattle.spread_stage.specs.near.Uses.{IsSpan}
use Rattle.spread_stage.specs.declared.months.MonthUnits.{MonthUnits}
use Rattle.spread_stage.specs.declared.tier_sums.TierSums.{TierSums}
use Rattle.spread_stage.specs.declared.tiers.Span.{Span}
use Rattle.spread_stage.proofs.SizeLemmas.{tier_side-le}
use Rattle.spread_stage.proofs.TierNumberLemmas.{number_right}
use Rattle.spread_stage.proofs.UseLaws.{side-append, side-cons, weight}

-- tiers without months have no sum
pub nothing_summed : (tiers : List Tier) (s : TierSums) → ((on : MarketSide) (k : ℕ) → k < length tiers → sum_of s on k ≡ 0)
    → ((k : ℕ) → k < length tiers → span_of s k ≡ no_span) → AreSums tiers [] s
nothing_summed tiers s none no_place = record {
  sums = λ k lt on. none on k lt;
  spans = λ k lt. subst (IsSpan [] (months_of (tier_at tiers k))) (sym (no_place k lt))
      (record { up = omega arith; within = omega arith; outside = λ q m short side. absurd (omega (arith, short)) });
}

pub nothing_open : (tiers : List Tier) (s : TierSums) → ((on : MarketSide) (k : ℕ) → k < length tiers → sum_of s on k ≡ 0)
    → (sides : OpenSides) → AreOpen tiers s sides
nothing_open tiers s none sides k few on some = let no = none on k few in absurd (omega (arith, no, some))

-- a side stays open while the sides of more numbers are opened
stays_open : (before after : OpenSides) (k : ℕ) → (IsOpenAt before k (pos 1) → IsOpenAt after k (pos 1))
    → (IsOpenAt before k (negsuc 0) → IsOpenAt after k (negsuc 0)) → (on : MarketSide) → IsMarked (numbers_on on before) k
    → IsMarked (numbers_on on after) k
stays_open before after k long short Long is = long at Long (omega arith)
  where
    at : IsOpenAt before k (pos 1)
    at Long some = is
    at Short some = absurd (omega (arith, some))
stays_open before after k long short Short is = short at Short (omega arith)
  where
    at : IsOpenAt before k (negsuc 0)
    at Long some = absurd (omega (arith, some))
    at Short some = is

-- the units of a month were added to the sums of its tier and to the open sides
pub open_more : (tiers : List Tier) → length tiers ≤ MAX_TIERS → (tier : ℕ) (units : ℤ) (before after : TierSums) (sides now : OpenSides)
    → ((on : MarketSide) (k : ℕ) → k < MAX_TIERS → sum_of after on k ≡ sum_of before on k + cond (tier == k) (part_on on units) 0)
    → IsOpenAt now tier units → ((other : ℕ) (z : ℤ) → IsOpenAt sides other z → IsOpenAt now other z) → AreOpen tiers before sides
    → AreOpen tiers after now
open_more tiers most tier units before after sides now added here kept opened k few on some =
    by (tier == k) refl (cases_lt 0 (sum_of before on k))
  where
    by : (b : Bool) → (tier == k) ≡ b → (0 < sum_of before on k) ⊎ (sum_of before on k ≤ 0) → IsMarked (numbers_on on now) k
    by b e (inl above) = stays_open sides now k (kept k (pos 1)) (kept k (negsuc 0)) on (opened k few on above)
    by true e (inr none) =
        let at : tier ≡ k = grind (arith, nat_tests, e) in
        let sum : sum_of after on k ≡ sum_of before on k + part_on on units =
        added on k (omega (arith, few, most)) ∙ ap (λ b. sum_of before on k + cond b (part_on on units) 0) e in
        subst (λ n. IsMarked (numbers_on on now) n) at (here on (omega (arith, some, sum, none)))
    by false e (inr none) =
        let sum : sum_of after on k ≡ sum_of before on k + 0 =
        added on k (omega (arith, few, most)) ∙ ap (λ b. sum_of before on k + cond b (part_on on units) 0) e in
        absurd (omega (arith, some, sum, none))

module _ (tiers : List Tier) (tiers_are : AreTiers tiers) (months : List MonthUnits) (i : ℕ) (lt : i < length months) (m : MonthUnits)
    (at : m ≡ get_or months i m) (tier : ℕ) (is : tier ≡ position_or_len (has_month m.month) tiers) where
  abbrev leg_at : ℕ → MonthLeg
  leg_at k = months_of (tier_at tiers k)

  weight_if : (b : Bool) (on : MarketSide) (k : ℕ) → is_in_tier (leg_at k) m ≡ b → weight on (leg_at k) m ≡ cond b (part_on on m.units) 0
  unfolding weight
  weight_if true on k e = rw e refl
  weight_if false on k e = rw e refl

  -- the side of a tier grows by the month's part if the month is in the tier
  side_more : (k : ℕ) → k < length tiers → (on : MarketSide)
      → tier_side (take (i + 1) months) on (leg_at k) ≡ tier_side (take i months) on (leg_at k) + cond (tier == k) (part_on on m.units) 0
  side_more k below on =
      let next = ap (λ xs. tier_side xs on (leg_at k)) (take_more months i m lt) in
      let both = side-append on (leg_at k) (take i months) (get_or months i m ∷ []) in
      let last = side-cons on (leg_at k) (get_or months i m) [] in
      let here : weight on (leg_at k) (get_or months i m) ≡ cond (tier == k) (part_on on m.units) 0 =
      ap (weight on (leg_at k)) (sym at) ∙ weight_if (tier == k) on k (number_right tiers tiers_are m tier is k below) in
      omega (arith, next, both, last, here)

  -- a span among the first months is one among one more, if that one is not in the tier
  span_same : (k : ℕ) (span : Span) → k < length tiers → (tier == k) ≡ false → IsSpan (take i months) (leg_at k) span
      → IsSpan (take (i + 1) months) (leg_at k) span
  span_same k span below other old =
      let some = length-take i months in
      let more = length-take (i + 1) months in
      let within = old.within in
      record {
        up = old.up;
        within = omega (arith, within, some, more, lt);
        outside = λ q x short side. by q x (omega (arith, short, more, lt)) side (cases_lt q i);
      }
    where
      by : (q : ℕ) (x : MonthUnits) → q < i + 1 → (q < span.first) ⊎ (span.end ≤ q) → (q < i) ⊎ (i ≤ q)
          → is_in_tier (leg_at k) (get_or (take (i + 1) months) q x) ≡ false
      by q x short side (inl early) =
          ap (is_in_tier (leg_at k)) (get_or-take (i + 1) months q x short ∙ sym (get_or-take i months q x early))
          ∙ old.outside q x (let some = length-take i months in omega (arith, early, some, lt)) side
      by q x short side (inr late) =
          let here : q ≡ i = omega (arith, short, late) in
          ap (is_in_tier (leg_at k)) (get_or-take (i + 1) months q x short ∙ ap (λ n. get_or months n x) here
          ∙ get_or_default months i x m lt ∙ sym at) ∙ number_right tiers tiers_are m tier is k below ∙ other

  -- the month is the last one of its tier's span
  span_more : (k : ℕ) (span : Span) → IsSpan (take i months) (leg_at k) span → IsSpan (take (i + 1) months) (leg_at k) (span_with span i)
  span_more k span old = by (span.end == 0) refl
    where
      some : length (take i months) ≡ i
      some = let long = length-take i months in omega (arith, long, lt)

      early : (q : ℕ) (x : MonthUnits) → q < i → (q < span.first) ⊎ (span.end ≤ q)
          → is_in_tier (leg_at k) (get_or (take (i + 1) months) q x) ≡ false
      early q x short side =
          ap (is_in_tier (leg_at k)) (get_or-take (i + 1) months q x (omega (arith, short)) ∙ sym (get_or-take i months q x short))
          ∙ old.outside q x (omega (arith, short, some)) side

      by : (b : Bool) → (span.end == 0) ≡ b
          → IsSpan (take (i + 1) months) (leg_at k) (record { first = cond b i span.first; end = i + 1 })
      by true e =
          let none : span.end ≡ 0 = grind (arith, nat_tests, e) in
          let more = length-take (i + 1) months in
          record {
            up = omega arith;
            within = omega (arith, more, lt);
            outside = λ q x short side. elim side [
              | inl below ↦ early q x below (inr (omega (arith, none)))
              | inr past ↦ absurd (omega (arith, past, short, more))
            ];
          }
      by false e =
          let up = old.up in
          let within = old.within in
          let more = length-take (i + 1) months in
          record {
            up = omega (arith, up, within, some);
            within = omega (arith, more, lt);
            outside = λ q x short side. elim side [
              | inl below ↦ early q x (omega (arith, below, up, within, some)) (inl below)
              | inr past ↦ absurd (omega (arith, past, short, more))
            ];
          }

  pub sums_more : (before after : TierSums) → ((on : MarketSide) (k : ℕ) → k < MAX_TIERS
      → sum_of after on k ≡ sum_of before on k + cond (tier == k) (part_on on m.units) 0)
      → ((k : ℕ) → k < MAX_TIERS → span_of after k ≡ cond (tier == k) (span_with (span_of before k) i) (span_of before k))
      → AreSums tiers (take i months) before → AreSums tiers (take (i + 1) months) after
  sums_more before after added placed sums = record {
    sums = λ k below on.
        added on k (within k below)
        ∙ ap (λ n. n + cond (tier == k) (part_on on m.units) 0) (sums.sums k below on) ∙ sym (side_more k below on);
    spans = λ k below. subst (IsSpan (take (i + 1) months) (leg_at k)) (sym (placed k (within k below))) (by k below (tier == k) refl);
  }
    where
      within : (k : ℕ) → k < length tiers → k < MAX_TIERS
      within k below = let few = tiers_are.few in omega (arith, few, below)

      by : (k : ℕ) → k < length tiers → (b : Bool) → (tier == k) ≡ b
          → IsSpan (take (i + 1) months) (leg_at k) (cond b (span_with (span_of before k) i) (span_of before k))
      by k below true e = span_more k (span_of before k) (sums.spans k below)
      by k below false e = span_same k (span_of before k) below e (sums.spans k below)

  none_more : (k part : ℕ) (b : Bool) → (tier == k) ≡ b → k < length tiers → length tiers ≤ tier → cond b part 0 ≡ 0
  none_more k part true e below past = let same : tier ≡ k = grind (arith, nat_tests, e) in absurd (omega (arith, same, below, past))
  none_more k part false e below past = refl

  -- a month that is in no tier changes no sum
  pub sums_same : (sums : TierSums) → length tiers ≤ tier → AreSums tiers (take i months) sums → AreSums tiers (take (i + 1) months) sums
  sums_same sums past are = record {
    sums = λ k below on.
        let here = are.sums k below on in
        let more = side_more k below on in
        let none = none_more k (part_on on m.units) (tier == k) refl below past in omega (arith, here, more, none);
    spans = λ k below. span_same k (span_of sums k) below (other k (tier == k) refl below) (are.spans k below);
  }
    where
      other : (k : ℕ) (b : Bool) → (tier == k) ≡ b → k < length tiers → b ≡ false
      other k true e below = let same : tier ≡ k = grind (arith, nat_tests, e) in absurd (omega (arith, same, below, past))
      other k false e below = refl

  -- the sums have room for the next month
  pub room_for : (sums : TierSums) → AreMonths months → AreSums tiers (take i months) sums → tier < length tiers → (on : MarketSide)
      → sum_of sums on tier + nat_abs m.units ≤ MAX_UNITS
  room_for sums months_are are within on =
      let size : MonthUnits → ℕ = λ x. nat_abs x.units in
      let sum = are.sums tier within on in
      let side = tier_side-le on (leg_at tier) (take i months) in
      let next = ap total_size (take_more months i m lt) in
      let both = sum_by-append size (take i months) (get_or months i m ∷ []) in
      let last = sum_by-cons size (get_or months i m) [] in
      let here = ap size at in
      let all = sum_by-take-drop size months (i + 1) in
      let small = months_are.small in
      omega (arith, sum, side, next, both, last, here, all, small)
