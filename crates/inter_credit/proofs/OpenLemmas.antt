-- If spreads are formed, the sides of the market that the legs need are marked. Remaining deltas open no new side.
use Rattle.std.proofs.Common.{◌≡◌, ◌/◌, ◌<◌, ◌≤◌, ℕ, ℤ, nat_abs, pos, zero, suc, List, []}
use Rattle.std.proofs.Common.{◌∷◌, length, set, refl, sym, ap, subst, ◌∙◌, arith}
use Rattle.std.specs.List.{AllByRecursion}
use Rattle.span_tables.specs.Accepted.{IsInter}
use Rattle.span_tables.specs.Sides.{IsLeftOf, market_side, part_on, spreads_formed}
use Rattle.span_tables.specs.Slots.{IsMarked, IsOpenAt, numbers_on}
use Rattle.span_tables.specs.declared.records.CommodityLeg.{CommodityLeg}
use Rattle.span_tables.specs.declared.records.Inter.{Inter}
use Rattle.span_tables.specs.declared.sides.Direction.{Direction}
use Rattle.span_tables.specs.declared.sides.MarketSide.TheVariants.{Long, Short}
use Rattle.span_tables.specs.declared.slots.OpenSides.{OpenSides}
use Rattle.inter_credit.specs.Credits.{commodity_rooms, inter_both_ways, state_at, rest_at, unspread_state}
use Rattle.inter_credit.specs.States.{IsNotLoaded, IsUnspread, IsUnspreadState}
use Rattle.inter_credit.specs.near.CommodityStates.{IsCommodityState}
use Rattle.inter_credit.specs.declared.commodity_state.CommodityState.{CommodityState}
use Rattle.inter_credit.specs.near.Open.{AreOpen}
use Rattle.span_tables.specs.declared.limits.TheConstants.{MAX_PRICE2, MAX_UNITS}
use Rattle.inter_credit.proofs.StateLemmas.{rest_of_state}
use Rattle.inter_credit.proofs.RestLaws.{both_ways_use}
use Rattle.span_tables.proofs.SideLemmas.{side_above}

-- if spreads are formed, each leg's commodity is marked
pub legs_marked : (d : Direction) (sides : OpenSides) (states : List CommodityState) → AreOpen sides states → (legs : List CommodityLeg)
    → 0 < spreads_formed (commodity_rooms d legs states)
    → AllByRecursion (λ leg. IsMarked (numbers_on (market_side d leg.side) sides) leg.commodity) legs
legs_marked d sides states open_sides [] some = tt
legs_marked d sides states open_sides (leg ∷ []) some =
    (open_sides leg.commodity (market_side d leg.side) (side_above _ leg.ratio some), tt)
legs_marked d sides states open_sides (leg ∷ next ∷ legs) some =
    let n : ℕ = spreads_formed (commodity_rooms d (next ∷ legs) states) in
    let fit : ℕ = part_on (market_side d leg.side) (rest_at states leg.commodity) / leg.ratio in
    let here : 0 < fit = omega (arith, some) in
    let others : 0 < n = omega (arith, some) in (
      open_sides leg.commodity (market_side d leg.side) (side_above _ leg.ratio here),
      legs_marked d sides states open_sides (next ∷ legs) others,
    )

open_left : (sides : OpenSides) (k : ℕ) (before after : ℤ) → IsLeftOf before after → IsOpenAt sides k before
    → IsOpenAt sides k after
open_left sides k before after left at Long some = at Long (omega (arith, some, left.long))
open_left sides k before after left at Short some = at Short (omega (arith, some, left.short))

-- the remaining deltas after a spread are on the same sides
pub spread_open : (sides : OpenSides) (states after : List CommodityState) (spread : Inter) → IsInter (length states) spread
    → after ≡ inter_both_ways states spread → AreOpen sides states → AreOpen sides after
spread_open sides states after spread inter is open_sides =
    subst (AreOpen sides) (sym is)
    (λ k. rw rest_of_state (open_left sides k (state_at states k).rest (state_at (inter_both_ways states spread) k).rest
    (both_ways_use states spread inter k).rest (rw rest_of_state at (open_sides k))))

-- loading a commodity opens its side
set_open : (P : ℕ → ℤ → Type 0) (states : List CommodityState) (i : ℕ) (state : CommodityState) → ((k : ℕ) → P k (rest_at states k))
    → P i state.rest
    → (k : ℕ) → P k (rest_at (set states i state) k)
set_open P [] i state each new k = each k
set_open P (x ∷ xs) zero state each new zero = new
set_open P (x ∷ xs) zero state each new (suc k) = each (suc k)
set_open P (x ∷ xs) (suc i) state each new zero = each 0
set_open P (x ∷ xs) (suc i) state each new (suc k) = set_open (λ j. P (suc j)) xs i state (λ j. each (suc j)) new k

pub load_open : (before after : OpenSides) (states : List CommodityState) (i : ℕ) (state : CommodityState)
    → ((other : ℕ) (z : ℤ) → IsOpenAt before other z → IsOpenAt after other z) → IsOpenAt after i state.rest
    → AreOpen before states → AreOpen after (set states i state)
load_open before after states i state kept new open_sides =
    set_open (IsOpenAt after) states i state (λ k. kept k (rest_at states k) (open_sides k)) new

same_state : (state : CommodityState) (net : ℤ) (price2 : ℕ) → net ≡ pos 0 → price2 ≡ 0 → state.net ≡ pos 0 → state.price2 ≡ 0
    → IsUnspreadState state → state ≡ unspread_state net price2
same_state state net price2 no_net no_risk none nothing unspread = λ k. record {
  net = (none ∙ sym no_net) k;
  rest = (unspread.rest ∙ none ∙ sym no_net) k;
  price2 = (nothing ∙ sym no_risk) k;
  weight = unspread.weight k;
}

-- loading zeros for a commodity that is not loaded changes nothing
pub nothing_loaded : (states : List CommodityState) (i : ℕ) (net : ℤ) (price2 : ℕ) → net ≡ pos 0 → price2 ≡ 0
    → IsNotLoaded states i → IsUnspread states
    → states ≡ set states i (unspread_state net price2)
nothing_loaded [] i net price2 no_net no_risk none unspread = refl
nothing_loaded (x ∷ xs) zero net price2 no_net no_risk none unspread =
    ap (λ y. y ∷ xs) (same_state x net price2 no_net no_risk none.0 none.1 (unspread 0 x (omega arith)))
nothing_loaded (x ∷ xs) (suc i) net price2 no_net no_risk none unspread =
    ap (λ ys. x ∷ ys) (nothing_loaded xs i net price2 no_net no_risk none (λ k d lt. unspread (suc k) d (omega arith)))

-- a net delta and a price risk in range make a state in range
pub loaded_state : (net : ℤ) (price2 : ℕ) → nat_abs net ≤ MAX_UNITS → price2 ≤ MAX_PRICE2 → IsCommodityState (unspread_state net price2)
loaded_state net price2 small few = record {
  net = small;
  price2 = few;
  rest = record { long = omega arith; short = omega arith };
  weight = omega arith;
}
