-- A spread leaves a part of each commodity's remaining delta.
use Rattle.std.proofs.Common.{◌≡◌, ◌+◌, ◌*◌, ◌-◌, ◌≤◌, ℕ, zero, suc, List, [], ◌∷◌, length, ℤ, pos}
use Rattle.std.proofs.Common.{negsuc, neg_ℤ, nat_abs, refl, ◌∙◌, arith}
use Rattle.std.proofs.lemmas.Int.{ints}
use Rattle.span_tables.specs.Accepted.{IsInter}
use Rattle.span_tables.specs.Sides.{IsLeftOf, less_used, market_side, part_on, spreads_formed}
use Rattle.span_tables.specs.declared.sides.Direction.{Direction}
use Rattle.span_tables.specs.declared.sides.Direction.TheVariants.{ALong, AShort}
use Rattle.span_tables.specs.declared.sides.MarketSide.{MarketSide}
use Rattle.span_tables.specs.declared.sides.MarketSide.TheVariants.{Long, Short}
use Rattle.span_tables.specs.declared.records.CommodityLeg.{CommodityLeg}
use Rattle.span_tables.specs.declared.records.Inter.{Inter}
use Rattle.inter_credit.specs.Credits.{change_at, commodity_rooms, inter_both_ways, inter_one_way, state_after, states_after}
use Rattle.inter_credit.specs.Credits.{rest_at, state_at}
use Rattle.inter_credit.specs.near.Rooms.{HaveRoom}
use Rattle.inter_credit.specs.States.{UsesState}
use Rattle.inter_credit.specs.declared.commodity_state.CommodityState.{CommodityState}
use Rattle.inter_credit.proofs.StateLemmas.{HaveRoom-rest, length-change_at}
use Rattle.inter_credit.proofs.SpreadLemmas.{formed_have_room}
use Rattle.span_tables.proofs.SideLemmas.{used_size}

same_left : (z : ℤ) → IsLeftOf z z
same_left z = record { long = omega arith; short = omega arith }

left_of_left : (a b c : ℤ) → IsLeftOf a b → IsLeftOf b c → IsLeftOf a c
left_of_left a b c p q = record { long = omega (arith, p.long, q.long); short = omega (arith, p.short, q.short) }

left_of_neg : (n m : ℕ) → m ≤ n → IsLeftOf (neg_ℤ (pos n)) (neg_ℤ (pos m))
left_of_neg n zero le = record { long = omega arith; short = omega arith }
left_of_neg zero (suc m) le = absurd (omega arith)
left_of_neg (suc n) (suc m) le = record { long = omega arith; short = omega arith }

-- a use that a remaining delta has room for leaves a part of it
used_left : (on : MarketSide) (z : ℤ) (used : ℕ) → used ≤ part_on on z → IsLeftOf z (less_used on z used)
used_left Long (pos n) used le =
    let e : less_used Long (pos n) used ≡ pos (n - used) = omega (arith, ints, le) in
    rw e (record { long = omega arith; short = omega arith })
used_left Long (negsuc n) used le =
    let e : less_used Long (negsuc n) used ≡ negsuc n = omega (arith, ints, le) in rw e (same_left (negsuc n))
used_left Short (pos n) used le = let e : less_used Short (pos n) used ≡ pos n = omega (arith, ints, le) in rw e (same_left (pos n))
used_left Short (negsuc n) used le =
    let e : less_used Short (negsuc n) used ≡ neg_ℤ (pos (suc n - used)) = omega (arith, ints, le) in
    rw e (left_of_neg (suc n) (suc n - used) (omega arith))

same_state : (basis_points : ℕ) (state : CommodityState) → UsesState basis_points state state
same_state bp state = record { net = refl; price2 = refl; rest = same_left state.rest; weight = refl }

then_state : (basis_points : ℕ) (a b c : CommodityState) → UsesState basis_points a b → UsesState basis_points b c
    → UsesState basis_points a c
then_state bp a b c p q = record {
  net = q.net ∙ p.net;
  price2 = q.price2 ∙ p.price2;
  rest = left_of_left a.rest b.rest c.rest p.rest q.rest;
  weight = q.weight ∙ p.weight;
}

weight_after : (w u bp z z' : ℕ) → z' + u ≡ z → w + u * bp + bp * z' ≡ w + bp * z
weight_after w u bp z z' e = rw (← e) (omega arith)

used_state : (on : MarketSide) (used basis_points : ℕ) (state : CommodityState) → used ≤ part_on on state.rest
    → UsesState basis_points state (state_after on used basis_points state)
used_state on used bp state le = record {
  net = refl;
  price2 = refl;
  rest = used_left on state.rest used le;
  weight = weight_after state.weight used bp (nat_abs state.rest) (nat_abs (less_used on state.rest used))
      (used_size on state.rest used le);
}

-- using units of one commodity is a valid use for the state of every commodity
change_uses : (on : MarketSide) (used basis_points i : ℕ) (states : List CommodityState) → used ≤ part_on on (rest_at states i)
    → (k : ℕ) → UsesState basis_points (state_at states k) (state_at (change_at (state_after on used basis_points) i states) k)
change_uses on used bp i [] le k = same_state bp (state_at [] k)
change_uses on used bp zero (state ∷ states) le zero = used_state on used bp state le
change_uses on used bp zero (state ∷ states) le (suc k) = same_state bp (state_at states k)
change_uses on used bp (suc i) (state ∷ states) le zero = same_state bp state
change_uses on used bp (suc i) (state ∷ states) le (suc k) = change_uses on used bp i states le k

-- spreads keep the number of states
pub length-states_after : (d : Direction) (n basis_points : ℕ) (legs : List CommodityLeg) (states : List CommodityState)
    → length (states_after d n basis_points legs states) ≡ length states
length-states_after d n bp [] states = refl
length-states_after d n bp (leg ∷ legs) states =
    length-states_after d n bp legs (change_at (state_after (market_side d leg.side) (n * leg.ratio) bp) leg.commodity states)
    ∙ length-change_at (state_after (market_side d leg.side) (n * leg.ratio) bp) leg.commodity states

legs_use : (d : Direction) (n basis_points : ℕ) (legs : List CommodityLeg) (states : List CommodityState) → HaveRoom d n legs states
    → (k : ℕ) → UsesState basis_points (state_at states k) (state_at (states_after d n basis_points legs states) k)
legs_use d n bp [] states room k = same_state bp (state_at states k)
legs_use d n bp (leg ∷ legs) states room k =
    let f : CommodityState → CommodityState = state_after (market_side d leg.side) (n * leg.ratio) bp in
    then_state bp (state_at states k) (state_at (change_at f leg.commodity states) k) (state_at (states_after d n bp (leg ∷ legs) states) k)
    (change_uses (market_side d leg.side) (n * leg.ratio) bp leg.commodity states (room.room 0 leg (omega arith)) k)
    (legs_use d n bp legs (change_at f leg.commodity states) (HaveRoom-rest d n leg legs states f room) k)

pub one_way_uses : (s : Inter) (d : Direction) (states : List CommodityState) → IsInter (length states) s
    → (k : ℕ) → UsesState s.basis_points (state_at states k) (state_at (inter_one_way s d states) k)
one_way_uses s d states inter k =
    let n : ℕ = spreads_formed (commodity_rooms d s.legs states) in
    legs_use d n s.basis_points s.legs states (formed_have_room (length states) d s states s.legs n inter refl refl refl) k

-- a spread in both directions uses each state
pub both_ways_use : (states : List CommodityState) (s : Inter) → IsInter (length states) s
    → (k : ℕ) → UsesState s.basis_points (state_at states k) (state_at (inter_both_ways states s) k)
unfolding inter_both_ways
both_ways_use states s inter k =
    let first = inter_one_way s ALong states in
    let long = length-states_after ALong (spreads_formed (commodity_rooms ALong s.legs states)) s.basis_points s.legs states in
    then_state s.basis_points (state_at states k) (state_at first k) (state_at (inter_one_way s AShort first) k)
    (one_way_uses s ALong states inter k) (one_way_uses s AShort first (rw long inter) k)

-- a spread keeps the number of commodities
pub length-inter_both_ways : (states : List CommodityState) (s : Inter) → length (inter_both_ways states s) ≡ length states
unfolding inter_both_ways
length-inter_both_ways states s =
    let first = inter_one_way s ALong states in
    length-states_after AShort (spreads_formed (commodity_rooms AShort s.legs first)) s.basis_points s.legs first
    ∙ length-states_after ALong (spreads_formed (commodity_rooms ALong s.legs states)) s.basis_points s.legs states
