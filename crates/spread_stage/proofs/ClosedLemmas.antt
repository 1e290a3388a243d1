-- A spread that is not formed changes nothing, and no spread is formed without months.
use Rattle.std.proofs.Common.{◌≡◌, ℕ, ◌+◌, ◌*◌, ◌^◌, List, [], ◌∷◌, refl, ap, ◌∙◌, arith, sum_by, fold}
use Rattle.std.specs.Int.{div_ceil}
use Rattle.std.proofs.Math.Nat.{zero-div}
use Rattle.std.proofs.lemmas.List.Sums.{sum_by-cons}
use Rattle.span_tables.specs.Sides.{spreads_formed}
use Rattle.span_tables.specs.declared.sides.Direction.{Direction}
use Rattle.span_tables.specs.declared.sides.Direction.TheVariants.{ALong, AShort}
use Rattle.span_tables.specs.declared.records.Intra.{Intra}
use Rattle.span_tables.specs.declared.legs.MonthLeg.{MonthLeg}
use Rattle.span_tables.specs.declared.records.Spot.{Spot}
use Rattle.spread_stage.specs.Charges.{delivery_charge, spot_charge}
use Rattle.spread_stage.specs.Spreads.{TierRests, after_spreads, formed_in, spread_both_ways, spread_one_way, tier_rooms, unspread}
use Rattle.spread_stage.specs.declared.months.MonthUnits.{MonthUnits}
use Rattle.spread_stage.proofs.SpreadLemmas.{legs_none}

formed_of_nothing : (d : Direction) (legs : List MonthLeg) → spreads_formed (tier_rooms d legs []) ≡ 0
formed_of_nothing d [] = refl
formed_of_nothing d (leg ∷ []) = zero-div leg.ratio
formed_of_nothing d (leg ∷ x ∷ xs) = let none = zero-div leg.ratio in omega (arith, none)

-- a spread that forms nothing in a direction changes nothing in it
pub one_way_none : (t : TierRests) (s : Intra) (d : Direction) → spreads_formed (tier_rooms d s.legs t.rests) ≡ 0
    → spread_one_way s d t ≡ t
one_way_none t s d e =
    let n = spreads_formed (tier_rooms d s.legs t.rests) in
    let free : t.charge + n * s.rate ≡ t.charge = ap (λ k. t.charge + k * s.rate) e ∙ omega arith in
    ap (λ (rs : List MonthUnits). let u : TierRests = record { rests = rs; charge = t.charge + n * s.rate } in u)
    (legs_none d n s.legs t.rests e)
    ∙ ap (λ (c : ℕ). let u : TierRests = record { rests = t.rests; charge = c } in u) free

-- a spread that forms nothing in either direction changes nothing
pub both_ways_none : (t : TierRests) (s : Intra) → formed_in s ALong t ≡ 0 → formed_in s AShort t ≡ 0 → spread_both_ways t s ≡ t
unfolding spread_both_ways
both_ways_none t s long short = ap (spread_one_way s AShort) (one_way_none t s ALong long) ∙ one_way_none t s AShort short

-- if no month is held, spreads change nothing
pub after_spreads_of_nothing : (spreads : List Intra) → after_spreads spreads [] ≡ unspread []
unfolding after_spreads
after_spreads_of_nothing [] = refl
after_spreads_of_nothing (s ∷ spreads) =
    ap (λ (t : TierRests). fold spread_both_ways t spreads)
    (both_ways_none (unspread []) s (formed_of_nothing ALong s.legs) (formed_of_nothing AShort s.legs))
    ∙ after_spreads_of_nothing spreads

spots_of_nothing : (spots : List Spot) → sum_by (spot_charge [] []) spots ≡ 0
spots_of_nothing [] = refl
spots_of_nothing (s ∷ spots) =
    let all = sum_by-cons (spot_charge [] []) s spots in let rest = spots_of_nothing spots in omega (arith, all, rest)

-- if no month is held, the delivery charge is 0
pub delivery_of_nothing : (spots : List Spot) → delivery_charge [] [] spots ≡ 0
unfolding delivery_charge
delivery_of_nothing spots = ap (λ n. div_ceil n (10 ^ 8)) (spots_of_nothing spots)
