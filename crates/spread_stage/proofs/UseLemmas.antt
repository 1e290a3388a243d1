-- What a leg uses, computed in one pass over all months.
use Rattle.std.proofs.Common.{◌≡◌, ℕ, suc, ◌+◌, ◌-◌, min, Bool, true, false, cond, List, [], ◌∷◌, ◌++◌, refl, sym, ap}
use Rattle.std.proofs.Common.{◌∙◌, ◌<◌, ◌≤◌, subst, arith, append_assoc, drop, get_or, inl, inr, length, map, nat_abs, sum_by, take}
use Rattle.std.proofs.lemmas.List.{append-nil, get_or-drop, get_or-take, length-drop, length-take, take-append-drop}
use Rattle.std.proofs.lemmas.List.Sums.{sum_by-drop_more, sum_by-take-drop}
use Rattle.span_tables.specs.Sides.{part_on, less_used}
use Rattle.span_tables.specs.declared.sides.MarketSide.{MarketSide}
use Rattle.spread_stage.specs.Spreads.{is_in_tier, tier_side, used_of_month, rests_after_leg}
use Rattle.spread_stage.specs.Months.{MonthsRise, total_size}
use Rattle.span_tables.specs.declared.legs.MonthLeg.{MonthLeg}
use Rattle.spread_stage.specs.near.Uses.{IsSpan}
use Rattle.spread_stage.specs.declared.months.MonthUnits.{MonthUnits}
use Rattle.spread_stage.specs.declared.tiers.Span.{Span}
use Rattle.spread_stage.proofs.SpreadLemmas.{none_used}
use Rattle.spread_stage.proofs.UseLaws.{side_before_is, side-append, side-cons, weight}

-- a month that a loop has not reached is no larger than all months before the loop
pub unreached_size : (before now : List MonthUnits) (i : ℕ) (m : MonthUnits) → i < length now → drop i now ≡ drop i before
    → nat_abs (get_or now i m).units ≤ total_size before
unreached_size before now i m lt rest =
    let size : MonthUnits → ℕ = λ m. nat_abs m.units in
    let here = sum_by-drop_more size now i m lt in
    let same = ap (sum_by size) rest in
    let all = sum_by-take-drop size before i in
    omega (arith, here, same, all)

module _ (on : MarketSide) (leg : MonthLeg) where
  -- the units that a leg uses of a month if it still needs `needed` units
  abbrev used_now : ℕ → MonthUnits → ℕ
  used_now needed m = cond (is_in_tier leg m) (min (part_on on m.units) needed) 0

  -- the months after a leg used what it needs of them, in order
  abbrev pub leg_in_turn : ℕ → List MonthUnits → List MonthUnits
  leg_in_turn needed [] = []
  leg_in_turn needed (m ∷ ms) =
      record { month = m.month; units = less_used on m.units (used_now needed m) } ∷ leg_in_turn (needed - used_now needed m) ms

  less_needed : (b : Bool) (part needed side : ℕ)
      → needed - side - cond b (min part (needed - side)) 0 ≡ needed - (side + cond b part 0)
  less_needed true part needed side = omega arith
  less_needed false part needed side = omega arith

  same_month : (m : MonthUnits) (a b : ℕ) (xs ys : List MonthUnits) → a ≡ b → xs ≡ ys
      → record { month = m.month; units = less_used on m.units a } ∷ xs
      ≡ record { month = m.month; units = less_used on m.units b } ∷ ys
  same_month m a b xs ys e h =
      ap (λ (u : ℕ). record { month = m.month; units = less_used on m.units u } ∷ xs) e
      ∙ ap (λ (ms : List MonthUnits). record { month = m.month; units = less_used on m.units b } ∷ ms) h

  in_turn_from : (needed : ℕ) (front back : List MonthUnits) → MonthsRise (front ++ back)
      → leg_in_turn (needed - tier_side front on leg) back
      ≡ map (λ m. record { month = m.month; units = less_used on m.units (used_of_month (front ++ back) on leg needed m) }) back
  unfolding weight
  in_turn_from needed front [] rise = refl
  in_turn_from needed front (m ∷ ms) rise =
      let side = tier_side front on leg in
      let rests = front ++ m ∷ ms in
      let before = side_before_is on leg front m ms rise in
      let here : used_now (needed - side) m ≡ used_of_month rests on leg needed m =
      ap (λ n. cond (is_in_tier leg m) (min (part_on on m.units) (needed - n)) 0) (sym before) in
      let left = less_needed (is_in_tier leg m) (part_on on m.units) needed side in
      let a = side-append on leg front (m ∷ []) in
      let b = side-cons on leg m [] in
      let needs : needed - side - used_now (needed - side) m ≡ needed - tier_side (front ++ m ∷ []) on leg =
      omega (arith, left, a, b) in
      let regroup : (front ++ m ∷ []) ++ ms ≡ rests = append_assoc front (m ∷ []) ms in
      let ih = in_turn_from needed (front ++ m ∷ []) ms (subst MonthsRise (sym regroup) rise) in
      let rest : leg_in_turn (needed - side - used_now (needed - side) m) ms
      ≡ map (λ x. record { month = x.month; units = less_used on x.units (used_of_month rests on leg needed x) }) ms =
      ap (λ n. leg_in_turn n ms) needs ∙ ih
      ∙ ap (λ (all : List MonthUnits). map
      (λ x. record { month = x.month; units = less_used on x.units (used_of_month all on leg needed x) }) ms) regroup in
      same_month m (used_now (needed - side) m) (used_of_month rests on leg needed m)
      (leg_in_turn (needed - side - used_now (needed - side) m) ms)
      (map (λ x. record { month = x.month; units = less_used on x.units (used_of_month rests on leg needed x) }) ms) here rest

  -- one pass over the months computes the remaining deltas after a leg
  pub in_turn_is : (needed : ℕ) (rests : List MonthUnits) → MonthsRise rests
      → leg_in_turn needed rests ≡ rests_after_leg on needed rests leg
  in_turn_is needed rests rise =
      let none : needed ≡ needed - 0 = omega arith in
      ap (λ n. leg_in_turn n rests) none ∙ in_turn_from needed [] rests rise

  stays_if : (b : Bool) (part needed : ℕ) → b ≡ false → cond b (min part needed) 0 ≡ 0
  stays_if true part needed e = cc
  stays_if false part needed e = refl

  -- months that are not in the leg's tier stay as they are
  pub out_stays : (needed : ℕ) (xs ys : List MonthUnits)
      → ((k : ℕ) (m : MonthUnits) → k < length xs → is_in_tier leg (get_or xs k m) ≡ false)
      → leg_in_turn needed (xs ++ ys) ≡ xs ++ leg_in_turn needed ys
  out_stays needed [] ys out = refl
  out_stays needed (x ∷ xs) ys out =
      let none : used_now needed x ≡ 0 = stays_if (is_in_tier leg x) (part_on on x.units) needed (out 0 x (omega arith)) in
      let all : needed - used_now needed x ≡ needed = omega (arith, none) in
      ap (λ z. record { month = x.month; units = z } ∷ leg_in_turn (needed - used_now needed x) (xs ++ ys))
      (none_used on x.units (used_now needed x) none)
      ∙ ap (λ n. x ∷ leg_in_turn n (xs ++ ys)) all
      ∙ ap (λ (ms : List MonthUnits). x ∷ ms) (out_stays needed xs ys (λ k m lt. out (suc k) m (omega (arith, lt))))

  -- a leg uses nothing in front of the span of its tier
  pub from_span : (needed : ℕ) (rests : List MonthUnits) (span : Span) → IsSpan rests leg span
      → take span.first rests ++ leg_in_turn needed (drop span.first rests) ≡ leg_in_turn needed rests
  from_span needed rests span is =
      let up = is.up in
      let within = is.within in
      sym (out_stays needed (take span.first rests) (drop span.first rests)
      (λ k m lt. let short : k < span.first = (let long = length-take span.first rests in omega (arith, lt, long, up, within)) in
      ap (is_in_tier leg) (get_or-take span.first rests k m short) ∙ is.outside k m (omega (arith, short, up, within)) (inl short)))
      ∙ ap (leg_in_turn needed) (take-append-drop span.first rests)

  -- and nothing behind it
  pub to_span : (left place : ℕ) (rests now : List MonthUnits) (span : Span) → IsSpan rests leg span → place ≡ span.end
      → drop place now ≡ drop place rests → take place now ++ leg_in_turn left (drop place now) ≡ now
  to_span left place rests now span is at same =
      let tail : List MonthUnits = drop place now in
      let out : leg_in_turn left (tail ++ []) ≡ tail ++ [] =
      out_stays left tail []
      (λ k m lt. ap (λ xs. is_in_tier leg (get_or xs k m)) same ∙ ap (is_in_tier leg) (get_or-drop place rests k m)
      ∙ is.outside (place + k) m (let long = ap length same in let rest = length-drop place rests in omega (arith, lt, long, rest))
      (inr (omega (arith, at)))) in
      ap (λ (xs : List MonthUnits). take place now ++ leg_in_turn left xs) (sym (append-nil tail))
      ∙ ap (λ (xs : List MonthUnits). take place now ++ xs) (out ∙ append-nil tail) ∙ take-append-drop place now
