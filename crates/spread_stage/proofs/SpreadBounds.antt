-- Bounds on month deltas, charges and remaining deltas.
use Rattle.std.proofs.Common.{ℕ, ◌*◌, ◌<◌, ◌≤◌, List, [], ◌∷◌, length, get_or, fold, sum_by, ap, arith, lit<}
use Rattle.std.specs.Prelude.{pos, ◌*ℤ◌, All, nat_abs}
use Rattle.std.proofs.Math.Nat.{mul-le-mul, mul-le-mul_right}
use Rattle.std.proofs.lemmas.Int.{ints}
use Rattle.std.proofs.lemmas.List.Elements.{All-head, All-tail}
use Rattle.std.proofs.lemmas.List.Sums.{sum_by-cons, sum_by-le}
use Rattle.span_money.proofs.NumberLaws.{div_ceil_least}
use Rattle.span_tables.specs.Accepted.{IsIntra, IsSpot}
use Rattle.span_tables.specs.Holdings.{AreHeld}
use Rattle.span_tables.specs.Net.{HeldContract}
use Rattle.span_tables.specs.Sides.{spreads_formed}
use Rattle.span_tables.specs.declared.limits.TheConstants.{MAX_DELTA, MAX_HELD, MAX_NET, MAX_RATE, MAX_SCALE, MAX_SPOT_MONTHS, MAX_UNITS}
use Rattle.span_tables.specs.declared.records.Intra.{Intra}
use Rattle.span_tables.specs.declared.records.Spot.{Spot}
use Rattle.span_tables.specs.declared.sides.Direction.{Direction}
use Rattle.span_tables.specs.declared.sides.Direction.TheVariants.{ALong, AShort}
use Rattle.span_tables.proofs.SumLaws.{int_sum_by-cons}
use Rattle.spread_stage.specs.Charges.{delivery_charge, intra_charge, left_of, spot_charge, used_of}
use Rattle.spread_stage.specs.Deltas.{month_deltas, net_delta, units_of}
use Rattle.spread_stage.specs.Months.{AreMonths, AreTierRests, Shrinks, total_size}
use Rattle.spread_stage.specs.Spreads.{TierRests, after_spreads, spread_both_ways, spread_one_way, tier_rooms, unspread}
use Rattle.spread_stage.specs.declared.charges.TheConstants.{MAX_DELIVERY_CHARGE, MAX_INTRA_CHARGE}
use Rattle.spread_stage.specs.declared.months.MonthUnits.{MonthUnits}
use Rattle.spread_stage.proofs.DeltaLemmas.{month_deltas-cons, size-with_units}
use Rattle.spread_stage.proofs.MonthLaws.{month_deltas_rise}
use Rattle.span_money.proofs.WordLemmas.{product_size}
use Rattle.spread_stage.proofs.SizeLemmas.{left_le, units_at_le}
use Rattle.spread_stage.proofs.SpreadLemmas.{formed_falls, legs_rise}

-- ---- month deltas

-- the largest delta of a held contract
largest_delta : ℕ
largest_delta = MAX_NET * MAX_DELTA * MAX_SCALE

units_small : (h : HeldContract) → nat_abs h.net ≤ MAX_NET → nat_abs h.contract.delta ≤ MAX_DELTA
    → h.contract.scale ≤ MAX_SCALE → nat_abs (units_of h) ≤ largest_delta
unfolding largest_delta
units_small h x y z =
    product_size (h.net *ℤ h.contract.delta) (pos h.contract.scale) (MAX_NET * MAX_DELTA) MAX_SCALE
    (product_size h.net h.contract.delta MAX_NET MAX_DELTA x y) z

-- the total size of month deltas is at most the number of contracts times the largest delta
deltas_size : (held : List HeldContract) (m : ℕ) → All (λ h. nat_abs (units_of h) ≤ m) held
    → total_size (month_deltas held) ≤ length held * m
unfolding month_deltas
deltas_size [] m all = omega arith
deltas_size (h ∷ hs) m all =
    let first : nat_abs (units_of h) ≤ m = All-head (λ x. nat_abs (units_of x) ≤ m) h hs all in
    let rest = deltas_size hs m (All-tail (λ x. nat_abs (units_of x) ≤ m) h hs all) in
    let more = size-with_units h.contract.month (units_of h) (month_deltas hs) in
    let same = ap total_size (month_deltas-cons h hs) in
    omega (arith, first, rest, more, same)

-- the month deltas of held contracts are within their bounds
pub months_are : (held : List HeldContract) → AreHeld held → AreMonths (month_deltas held)
unfolding largest_delta
months_are held are =
    let all = deltas_size held largest_delta (λ k d lt. units_small (get_or held k d) (are.nets k d lt)
    (are.contracts k d lt).delta (are.contracts k d lt).scale) in
    let few : length held * largest_delta ≤ MAX_HELD * largest_delta = mul-le-mul_right largest_delta are.few in
    record {
      rise = month_deltas_rise held;
      small = omega (arith, all, few);
    }

-- the size of the net delta is at most the total size of the months
net_size : (months : List MonthUnits) → nat_abs (net_delta months) ≤ total_size months
net_size [] = omega arith
net_size (m ∷ ms) =
    let rest = net_size ms in
    let all = sum_by-cons (λ (x : MonthUnits). nat_abs x.units) m ms in
    let net = int_sum_by-cons (λ (x : MonthUnits). x.units) m ms in
    omega (arith, ints, rest, all, net)

-- the net delta is at most MAX_UNITS
pub net_small : (months : List MonthUnits) → AreMonths months → nat_abs (net_delta months) ≤ MAX_UNITS
net_small months are = omega (arith, net_size months, are.small)

-- ---- the delivery charge

-- the charge of a spot month
spot_small : (deltas rests : List MonthUnits) (s : Spot) → AreMonths deltas → Shrinks deltas rests → IsSpot s
    → spot_charge deltas rests s ≤ 2 * (MAX_UNITS * MAX_RATE)
spot_small deltas rests s are shrinks is =
    let whole = units_at_le deltas s.month in
    let left = left_le deltas rests s.month shrinks in
    let few_used : used_of deltas rests s.month ≤ MAX_UNITS = omega (arith, whole, are.small) in
    let few_left : left_of rests s.month ≤ MAX_UNITS = omega (arith, whole, left, are.small) in
    let used : used_of deltas rests s.month * s.spread_rate ≤ MAX_UNITS * MAX_RATE = mul-le-mul few_used is.spread_rate in
    let rest : left_of rests s.month * s.outright_rate ≤ MAX_UNITS * MAX_RATE = mul-le-mul few_left is.outright_rate in
    omega (arith, used, rest)

-- the delivery charge of the remaining deltas
pub delivery_small : (deltas rests : List MonthUnits) (spots : List Spot) → AreMonths deltas → Shrinks deltas rests
    → length spots ≤ MAX_SPOT_MONTHS → All IsSpot spots → delivery_charge deltas rests spots ≤ MAX_DELIVERY_CHARGE
unfolding delivery_charge
delivery_small deltas rests spots are shrinks few all =
    let exact = sum_by-le (spot_charge deltas rests) (2 * (MAX_UNITS * MAX_RATE)) spots
    (λ k d lt. spot_small deltas rests (get_or spots k d) are shrinks (all k d lt)) in
    let fewer : length spots * (2 * (MAX_UNITS * MAX_RATE)) ≤ MAX_SPOT_MONTHS * (2 * (MAX_UNITS * MAX_RATE)) = mul-le-mul_right _ few in
    (div_ceil_least (sum_by (spot_charge deltas rests) spots) 100000000 (lit< tt)).1 MAX_DELIVERY_CHARGE (omega (arith, exact, fewer))

-- ---- intracommodity spreads

-- a spread in one direction
one_way_are : (s : Intra) (d : Direction) (t : TierRests) → IsIntra s → AreTierRests t → AreTierRests (spread_one_way s d t)
one_way_are s d t is are =
    let n = spreads_formed (tier_rooms d s.legs t.rests) in
    let some : 0 < length s.legs = omega (arith, is.at_least_two) in
    let falls = formed_falls d s.legs t.rests are.rise some is.ratios_above in
    let rate : n * s.rate ≤ n * MAX_RATE = mul-le-mul (omega arith) is.rate in
    record {
      rise = legs_rise d n s.legs t.rests are.rise;
      small = omega (arith, falls, rate, are.small);
    }

-- a spread in both directions
pub both_ways_are : (s : Intra) (t : TierRests) → IsIntra s → AreTierRests t → AreTierRests (spread_both_ways t s)
unfolding spread_both_ways
both_ways_are s t is are = one_way_are s AShort (spread_one_way s ALong t) is (one_way_are s ALong t is are)

all_are : (spreads : List Intra) (t : TierRests) → All IsIntra spreads → AreTierRests t
    → AreTierRests (fold spread_both_ways t spreads)
all_are [] t all are = are
all_are (s ∷ spreads) t all are =
    all_are spreads (spread_both_ways t s) (All-tail IsIntra s spreads all) (both_ways_are s t (All-head IsIntra s spreads all) are)

-- months before any spread
pub unspread_are : (months : List MonthUnits) → AreMonths months → AreTierRests (unspread months)
unspread_are months are = record {
  rise = are.rise;
  small = omega (arith, are.small);
}

-- months after all spreads
pub tiers_are : (spreads : List Intra) (months : List MonthUnits) → AreMonths months → All IsIntra spreads
    → AreTierRests (after_spreads spreads months)
unfolding after_spreads
tiers_are spreads months are all = all_are spreads (unspread months) all (unspread_are months are)

-- the intracommodity charge
pub intra_small : (t : TierRests) → AreTierRests t → intra_charge t.charge ≤ MAX_INTRA_CHARGE
unfolding intra_charge
intra_small t are = (div_ceil_least t.charge 10000 (lit< tt)).1 MAX_INTRA_CHARGE (omega (arith, are.small))
