-- Spreads that are left out: in each direction, a leg has nothing to use.
use Rattle.std.proofs.Common.{◌≡◌, ℕ, zero, suc, ◌-◌, ◌<◌, ◌≤◌, ◌==◌, ◌&&◌, Bool, true, false, cond, List, [], ◌∷◌}
use Rattle.std.proofs.Common.{refl, sym, ap, ◌∙◌, subst, arith, get_or, length, map}
use Rattle.std.specs.Int.{bit_at}
use Rattle.std.specs.Prelude.{All, ℤ, nat_le, negsuc, pos}
use Rattle.std.proofs.lemmas.Bool.Decides.{nat_tests}
use Rattle.std.proofs.lemmas.List.{length-map}
use Rattle.std.proofs.lemmas.List.Elements.{All-cons, All-nil}
use Rattle.std.proofs.lemmas.Nat.Bits.{bit_at-lt}
use Rattle.span_tables.specs.Accepted.{IsIntra}
use Rattle.span_tables.specs.Sides.{market_side, part_on, spreads_formed}
use Rattle.span_tables.specs.declared.leg_index.Found.{Found}
use Rattle.span_tables.specs.declared.leg_index.LegAt.{LegAt}
use Rattle.span_tables.specs.declared.leg_index.LegIndex.{LegIndex}
use Rattle.span_tables.specs.declared.legs.MonthLeg.{MonthLeg}
use Rattle.span_tables.specs.declared.records.Intra.{Intra}
use Rattle.span_tables.specs.declared.records.Tier.{Tier}
use Rattle.span_tables.specs.declared.sides.Direction.{Direction}
use Rattle.span_tables.specs.declared.sides.Direction.TheVariants.{ALong, AShort}
use Rattle.span_tables.specs.declared.sides.MarketSide.{MarketSide}
use Rattle.span_tables.specs.declared.sides.MarketSide.TheVariants.{Long, Short}
use Rattle.span_tables.specs.declared.sides.Side.TheVariants as side
use Rattle.span_tables.specs.declared.slots.OpenSides.{OpenSides}
use Rattle.span_tables.specs.near.LegIndex.{HasEnds, IsOpenLeg, found_in}
use Rattle.span_tables.proofs.GroupLemmas.{at_map}
use Rattle.spread_stage.specs.Months.{IsPartOf, Shrinks}
use Rattle.spread_stage.specs.Spreads.{TierRests, is_in_tier, spread_both_ways, spread_one_way, tier_rooms, tier_side}
use Rattle.spread_stage.specs.near.SetPlans.{IsByTiers}
use Rattle.spread_stage.specs.near.TierPlans.{AreKnown, IsIndexed, IsKnown, intra_of, leg_at}
use Rattle.spread_stage.specs.near.TierSums.{AreOpen, AreSums, IsClosed, sum_of}
use Rattle.spread_stage.specs.declared.months.MonthUnits.{MonthUnits}
use Rattle.spread_stage.specs.declared.tier_plans.TierLeg.{TierLeg}
use Rattle.spread_stage.specs.declared.tier_plans.TierPlan.{TierPlan}
use Rattle.spread_stage.specs.declared.tier_plans.TierSpread.{TierSpread}
use Rattle.spread_stage.specs.declared.tier_sums.TierSums.{TierSums}
use Rattle.spread_stage.proofs.ClosedLemmas.{one_way_none}
use Rattle.spread_stage.proofs.TierSumLemmas.{side_of_tier}
use Rattle.spread_stage.proofs.UseLaws.{side-cons, weight}
use Rattle.span_tables.proofs.SideLemmas.{side_above}

-- the leg has something to use in a direction
abbrev pub HasSome : Direction → List MonthUnits → MonthLeg → Type 0
HasSome d rests leg = 0 < tier_side rests (market_side d leg.side) leg

-- in each direction, a leg of the spread has nothing to use
abbrev pub IsLeftOut : TierRests → Intra → Type 0
IsLeftOut t s = (d : Direction) → IsClosed d t.rests s

-- ---- a spread that is left out changes nothing

-- if spreads are formed, each leg has something to use
legs_some : (d : Direction) (rests : List MonthUnits) (legs : List MonthLeg) → 0 < spreads_formed (tier_rooms d legs rests)
    → All (HasSome d rests) legs
legs_some d rests [] above = absurd (omega (arith, above))
legs_some d rests (leg ∷ []) above =
    All-cons (HasSome d rests) leg [] (side_above _ leg.ratio above) (All-nil (HasSome d rests))
legs_some d rests (leg ∷ x ∷ xs) above =
    All-cons (HasSome d rests) leg (x ∷ xs) (side_above _ leg.ratio (omega (arith, above)))
    (legs_some d rests (x ∷ xs) (omega (arith, above)))

none_by : (t : TierRests) (s : Intra) (d : Direction) (n : ℕ) → n ≡ spreads_formed (tier_rooms d s.legs t.rests)
    → IsClosed d t.rests s → spreads_formed (tier_rooms d s.legs t.rests) ≡ 0
none_by t s d zero e out = sym e
none_by t s d (suc n) e out = absurd (out (legs_some d t.rests s.legs (omega (arith, e))))

-- a spread changes nothing in a direction in which it is closed
pub closed_one_way : (t : TierRests) (s : Intra) (d : Direction) → IsClosed d t.rests s → spread_one_way s d t ≡ t
closed_one_way t s d out = one_way_none t s d (none_by t s d _ refl out)

pub left_out_changes : (t : TierRests) (s : Intra) → IsLeftOut t s → spread_both_ways t s ≡ t
unfolding spread_both_ways
left_out_changes t s out =
    ap (spread_one_way s AShort) (closed_one_way t s ALong (out ALong)) ∙ closed_one_way t s AShort (out AShort)

-- ---- what is left out stays out

part_less : (on : MarketSide) (a b : ℤ) → IsPartOf a b → part_on on b ≤ part_on on a
part_less Long (pos n) (pos k) h = h
part_less Long (pos n) (negsuc k) h = absurd h
part_less Long (negsuc n) (pos k) h = omega (arith, h)
part_less Long (negsuc n) (negsuc k) h = omega arith
part_less Short (pos n) (pos k) h = omega arith
part_less Short (pos n) (negsuc k) h = absurd h
part_less Short (negsuc n) (pos k) h = omega arith
part_less Short (negsuc n) (negsuc k) h = omega (arith, h)

weight_less : (b : Bool) (x y : ℕ) → x ≤ y → cond b x 0 ≤ cond b y 0
weight_less true x y le = le
weight_less false x y le = omega arith

-- a side does not grow while remaining deltas shrink
side_less : (on : MarketSide) (leg : MonthLeg) (ms rs : List MonthUnits) → Shrinks ms rs → tier_side rs on leg ≤ tier_side ms on leg
unfolding weight
side_less on leg [] [] h = omega arith
side_less on leg [] (r ∷ rs) h = absurd h
side_less on leg (m ∷ ms) [] h = absurd h
side_less on leg (m ∷ ms) (r ∷ rs) h =
    let old = side-cons on leg m ms in
    let new = side-cons on leg r rs in
    let same : is_in_tier leg r ≡ is_in_tier leg m = ap (λ p. nat_le leg.first p && nat_le p leg.last) h.0 in
    let here : cond (is_in_tier leg m) (part_on on r.units) 0 ≤ cond (is_in_tier leg m) (part_on on m.units) 0 =
    weight_less (is_in_tier leg m) _ _ (part_less on m.units r.units (h.1).0) in
    let is : cond (is_in_tier leg r) (part_on on r.units) 0 ≡ cond (is_in_tier leg m) (part_on on r.units) 0 =
    ap (λ b. cond b (part_on on r.units) 0) same in
    let rest = side_less on leg ms rs (h.1).1 in
    omega (arith, old, new, here, is, rest)

pub still_closed : (d : Direction) (before after : List MonthUnits) (s : Intra) → Shrinks before after → IsClosed d before s
    → IsClosed d after s
still_closed d before after s shrinks out some =
    out (λ k x lt. let leg = get_or s.legs k x in
    let less = side_less (market_side d leg.side) leg before after shrinks in omega (arith, less, some k x lt))

-- ---- what the index does not find is left out

no_leg : TierLeg
no_leg = record { months = record { first = 0; last = 0; side = side.A; ratio = 0 }; tier = 0 }

module _ (tiers : List Tier) (rests : List MonthUnits) (sums : TierSums) (are : AreSums tiers rests sums)
    (sides : OpenSides) (opened : AreOpen tiers sums sides) (s : TierSpread) (known : AreKnown tiers s) where
  abbrev legs : List TierLeg
  legs = s.legs.items

  leg_open : (d : Direction) → All (HasSome d rests) (intra_of s).legs → (k : ℕ) → k < length legs
      → IsOpenLeg sides d (leg_at (get_or legs k no_leg))
  leg_open d some k lt =
      let leg : TierLeg = get_or legs k no_leg in
      let on : MarketSide = market_side d leg.months.side in
      let is : IsKnown tiers leg = known k no_leg lt in
      let above : HasSome d rests leg.months =
      subst (HasSome d rests) (at_map (λ (x : TierLeg). x.months) legs k no_leg no_leg.months lt)
      (some k no_leg.months (subst (λ n. k < n) (sym (length-map legs (λ (x : TierLeg). x.months))) lt)) in
      let here : sum_of sums on leg.tier ≡ tier_side rests on leg.months =
      are.sums leg.tier is.within on ∙ side_of_tier tiers leg is rests on in
      opened leg.tier is.within on (omega (arith, above, here))

  pub not_found : (index : LegIndex) (number : ℕ) (d : Direction) → 0 < length legs → IsIndexed index number legs
      → ((f l : LegAt) → HasEnds index number f l → IsOpenLeg sides d f → IsOpenLeg sides d l → ⊥)
      → IsClosed d rests (intra_of s)
  not_found index number d above indexed none some =
      none _ _ (indexed no_leg) (leg_open d some 0 above) (leg_open d some (length legs - 1) (omega (arith, above)))

-- a number that is not tested as found is not found
pub bit_zero : (word number : ℕ) (b : Bool) → b ≡ (bit_at word number == 1) → b ≡ false → bit_at word number ≡ 0
bit_zero word number b is none =
    let other : (bit_at word number == 1) ≡ false = sym is ∙ none in
    let few = bit_at-lt word number in
    grind (arith, nat_tests, other, few)

-- the spreads of a list, by their place
pub intra_at : (spreads : List TierSpread) → All IsIntra (map intra_of spreads) → (k : ℕ) (d : TierSpread) → k < length spreads
    → IsIntra (intra_of (get_or spreads k d))
intra_at spreads are k d lt =
    subst IsIntra (at_map intra_of spreads k d (intra_of d) lt)
    (are k (intra_of d) (subst (λ n. k < n) (sym (length-map spreads intra_of)) lt))

pub some_legs : (s : TierSpread) → IsIntra (intra_of s) → 0 < length s.legs.items
some_legs s is =
    let two = is.at_least_two in
    let long = length-map s.legs.items (λ (x : TierLeg). x.months) in
    omega (arith, two, long)

-- a spread that one of its directions does not form in is formed in the other alone
pub one_way_alone : (t : TierRests) (s : Intra) → IsClosed ALong t.rests s → spread_both_ways t s ≡ spread_one_way s AShort t
unfolding spread_both_ways
one_way_alone t s out = ap (spread_one_way s AShort) (closed_one_way t s ALong out)

pub first_way_alone : (t after : TierRests) (s : Intra) → after ≡ spread_one_way s ALong t → IsClosed AShort after.rests s
    → after ≡ spread_both_ways t s
unfolding spread_both_ways
first_way_alone t after s is out = sym (closed_one_way after s AShort out) ∙ ap (spread_one_way s AShort) is

-- a spread was formed in the direction that is not closed, if one of them is
pub formed_alone : (t after : TierRests) (s : Intra) (a_long a_short : Bool) → after ≡ spread_one_way s (cond a_long ALong AShort) t
    → (a_long ≡ false → IsClosed ALong t.rests s) → (a_short ≡ false → IsClosed AShort t.rests s) → Shrinks t.rests after.rests
    → (a_long && a_short) ≡ false → after ≡ spread_both_ways t s
formed_alone t after s true true is long short less e = absurd (grind (arith, e))
formed_alone t after s true false is long short less e =
    first_way_alone t after s is (still_closed AShort t.rests after.rests s less (short refl))
formed_alone t after s false a_short is long short less e = is ∙ sym (one_way_alone t s (long refl))

-- the spreads of a plan that the index does not find in a direction are closed in it
pub all_closed : (tiers : List Tier) (rests : List MonthUnits) (sums : TierSums) → AreSums tiers rests sums
    → (sides : OpenSides) → AreOpen tiers sums sides → (plan : TierPlan) → IsByTiers tiers plan
    → All IsIntra (map intra_of plan.spreads.items) → (found : Found)
    → ((number : ℕ) (f l : LegAt) → HasEnds plan.index number f l → (d : Direction) → bit_at (found_in d found) number ≡ 0
    → IsOpenLeg sides d f → IsOpenLeg sides d l → ⊥)
    → (k : ℕ) (e : TierSpread) (d : Direction) → k < length plan.spreads.items → bit_at (found_in d found) k ≡ 0
    → IsClosed d rests (intra_of (get_or plan.spreads.items k e))
all_closed tiers rests sums are sides opened plan by intras found none k e d lt out =
    let s = get_or plan.spreads.items k e in
    not_found tiers rests sums are sides opened s (by.known k e lt) plan.index k d (some_legs s (intra_at plan.spreads.items intras k e lt))
    (by.indexed k e lt) (λ f l has. none k f l has d out)
