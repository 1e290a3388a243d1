-- The number of spreads formed fits each leg.
use Rattle.std.proofs.Common.{◌≡◌, ◌/◌, ◌*◌, ◌<◌, ◌≤◌, ℕ, min, List, [], ◌∷◌, map, length, arith}
use Rattle.std.specs.List.{All, AllByRecursion}
use Rattle.std.proofs.Math.Nat.{div-mul-le_self, mul-le-mul_right, min-le_left, min-le_right}
use Rattle.std.proofs.lemmas.List.Elements.{All-from_recursion, All-same}
use Rattle.span_tables.specs.Accepted.{IsInter}
use Rattle.span_tables.specs.Sides.{Room, market_side, part_on, spreads_formed}
use Rattle.span_tables.specs.declared.sides.Direction.{Direction}
use Rattle.span_tables.specs.declared.records.CommodityLeg.{CommodityLeg}
use Rattle.span_tables.specs.declared.records.Inter.{Inter}
use Rattle.inter_credit.specs.Credits.{commodity_rooms, rest_at}
use Rattle.inter_credit.specs.near.Rooms.{HaveRoom}
use Rattle.inter_credit.specs.declared.commodity_state.CommodityState.{CommodityState}

room_of : Direction → List CommodityState → CommodityLeg → Room
room_of d states leg = record { side = part_on (market_side d leg.side) (rest_at states leg.commodity); ratio = leg.ratio }

-- n spreads use no more of each leg's side than it has
abbrev Fit : (CommodityLeg → Room) → ℕ → List CommodityLeg → Type 0
Fit f n legs = AllByRecursion (λ leg. n * (f leg).ratio ≤ (f leg).side) legs

Fit-fewer : (f : CommodityLeg → Room) (n m : ℕ) (legs : List CommodityLeg) → n ≤ m → Fit f m legs → Fit f n legs
Fit-fewer f n m [] le fit = tt
Fit-fewer f n m (leg ∷ legs) le fit =
    let less : n * (f leg).ratio ≤ m * (f leg).ratio = mul-le-mul_right (f leg).ratio le in
    (omega (arith, less, fit.0), Fit-fewer f n m legs le fit.1)

formed_fit : (f : CommodityLeg → Room) (legs : List CommodityLeg) → Fit f (spreads_formed (map f legs)) legs
formed_fit f [] = tt
formed_fit f (leg ∷ []) = (div-mul-le_self (f leg).side (f leg).ratio, tt)
formed_fit f (leg ∷ next ∷ legs) =
    let n = spreads_formed (map f (next ∷ legs)) in
    let less : min ((f leg).side / (f leg).ratio) n * (f leg).ratio ≤ ((f leg).side / (f leg).ratio) * (f leg).ratio =
    mul-le-mul_right (f leg).ratio (min-le_left ((f leg).side / (f leg).ratio) n) in (
      omega (arith, less, div-mul-le_self (f leg).side (f leg).ratio),
      Fit-fewer f _ n (next ∷ legs) (min-le_right ((f leg).side / (f leg).ratio) n) (formed_fit f (next ∷ legs)),
    )

-- each leg has room for the number of spreads formed
pub formed_have_room : (commodities : ℕ) (d : Direction) (spread : Inter) (states : List CommodityState) (legs : List CommodityLeg) (n : ℕ)
    → IsInter commodities spread → length states ≡ commodities → legs ≡ spread.legs
    → n ≡ spreads_formed (commodity_rooms d legs states)
    → HaveRoom d n legs states
unfolding room_of
formed_have_room commodities d spread states legs n inter long same formed =
    let known : All (λ leg. leg.commodity < commodities) legs =
    All-same (λ leg. leg.commodity < commodities) legs spread.legs same inter.known in
    record {
      known = rw long known;
      room = rw formed (All-from_recursion
          (λ leg. spreads_formed (commodity_rooms d legs states) * leg.ratio
          ≤ part_on (market_side d leg.side) (rest_at states leg.commodity)) legs (formed_fit (room_of d states) legs));
      apart = rw same inter.apart;
    }
