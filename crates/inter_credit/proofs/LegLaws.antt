-- A spread in a direction uses exactly what each leg needs of its commodity, and nothing of other commodities.
use Rattle.std.proofs.Common.{◌≡◌, ◌≢◌, ◌+◌, ◌*◌, ◌<◌, ◌≤◌, ◌==◌, ℕ, zero, suc, false, List, [], ◌∷◌, length}
use Rattle.std.proofs.Common.{refl, sym, ap, ◌∙◌, arith}
use Rattle.std.specs.List.{AllByRecursion, list_any}
use Rattle.span_tables.specs.Accepted.{IsInter}
use Rattle.span_tables.specs.Names.{has_repeat}
use Rattle.span_tables.specs.Sides.{market_side, part_on, spreads_formed}
use Rattle.span_tables.specs.declared.sides.Direction.{Direction}
use Rattle.span_tables.specs.declared.sides.MarketSide.{MarketSide}
use Rattle.span_tables.specs.declared.records.CommodityLeg.{CommodityLeg}
use Rattle.span_tables.specs.declared.records.Inter.{Inter}
use Rattle.inter_credit.specs.Credits.{change_at, commodity_rooms, inter_one_way, leg_side, state_after, state_at, states_after, rest_at}
use Rattle.inter_credit.specs.near.Rooms.{HaveRoom}
use Rattle.inter_credit.specs.declared.commodity_state.CommodityState.{CommodityState}
use Rattle.inter_credit.proofs.StateLemmas.{HaveRoom-rest, state_at-change_at, not_equal, rest_at-change_at}
use Rattle.inter_credit.proofs.SpreadLemmas.{formed_have_room}
use Rattle.span_tables.proofs.SideLemmas.{used_part}
use Rattle.std.proofs.lemmas.Bool.{or_parts}

-- the side of a commodity falls by the units that were used
side_falls : (on : MarketSide) (used basis_points i : ℕ) (states : List CommodityState) → i < length states
    → used ≤ part_on on (rest_at states i)
    → part_on on (rest_at (change_at (state_after on used basis_points) i states) i) + used ≡ part_on on (rest_at states i)
side_falls on used bp i [] lt le = absurd (omega arith)
side_falls on used bp zero (state ∷ states) lt le = used_part on state.rest used le
side_falls on used bp (suc i) (state ∷ states) lt le = side_falls on used bp i states (omega arith) le

-- no other leg has a leg's commodity
each_apart : (leg : CommodityLeg) (legs : List CommodityLeg) → list_any (λ b. leg.commodity == b.commodity) legs ≡ false
    → AllByRecursion (λ other. leg.commodity ≢ other.commodity) legs
each_apart leg [] e = tt
each_apart leg (other ∷ legs) e =
    let rest = list_any (λ b. leg.commodity == b.commodity) legs in (
      not_equal leg.commodity other.commodity (or_parts (leg.commodity == other.commodity) rest e).0,
      each_apart leg legs (or_parts (leg.commodity == other.commodity) rest e).1,
    )

module _ (d : Direction) (n basis_points : ℕ) where
  abbrev after : CommodityLeg → List CommodityState → List CommodityState
  after leg states = change_at (state_after (market_side d leg.side) (n * leg.ratio) basis_points) leg.commodity states

  others_kept : (k : ℕ) (legs : List CommodityLeg) (states : List CommodityState) → AllByRecursion (λ leg. leg.commodity ≢ k) legs
      → state_at (states_after d n basis_points legs states) k ≡ state_at states k
  others_kept k [] states apart = refl
  others_kept k (leg ∷ legs) states apart =
      others_kept k legs (after leg states) apart.1
      ∙ state_at-change_at (state_after (market_side d leg.side) (n * leg.ratio) basis_points) leg.commodity k states apart.0

  rest_kept : (k : ℕ) (legs : List CommodityLeg) (states : List CommodityState) → AllByRecursion (λ leg. k ≢ leg.commodity) legs
      → rest_at (states_after d n basis_points legs states) k ≡ rest_at states k
  rest_kept k [] states apart = refl
  rest_kept k (leg ∷ legs) states apart =
      rest_kept k legs (after leg states) apart.1
      ∙ rest_at-change_at (state_after (market_side d leg.side) (n * leg.ratio) basis_points) leg.commodity k states
      (λ e. apart.0 (sym e))

  from_first : (leg : CommodityLeg) (legs : List CommodityLeg) (end states : List CommodityState)
      → AllByRecursion (λ other. leg.commodity ≢ other.commodity) legs
      → AllByRecursion (λ other. leg_side d other end + n * other.ratio ≡ leg_side d other (after leg states)) legs
      → AllByRecursion (λ other. leg_side d other end + n * other.ratio ≡ leg_side d other states) legs
  from_first leg [] end states apart fall = fall
  from_first leg (other ∷ legs) end states apart fall = (
    fall.0 ∙ ap (part_on (market_side d other.side))
        (rest_at-change_at (state_after (market_side d leg.side) (n * leg.ratio) basis_points) leg.commodity other.commodity
        states apart.0),
    from_first leg legs end states apart.1 fall.1,
  )

  -- the side of each leg's commodity falls by exactly what the leg needs
  legs_fall : (legs : List CommodityLeg) (states : List CommodityState) → HaveRoom d n legs states
      → AllByRecursion (λ leg. leg_side d leg (states_after d n basis_points legs states) + n * leg.ratio ≡ leg_side d leg states) legs
  legs_fall [] states room = tt
  legs_fall (leg ∷ legs) states room =
      let f : CommodityState → CommodityState = state_after (market_side d leg.side) (n * leg.ratio) basis_points in
      let apart = each_apart leg legs
      (or_parts (list_any (λ b. leg.commodity == b.commodity) legs) (has_repeat (λ a b. a.commodity == b.commodity) legs) room.apart).0 in
      let kept = rest_kept leg.commodity legs (after leg states) apart in
      let first = side_falls (market_side d leg.side) (n * leg.ratio) basis_points leg.commodity states
      (room.known 0 leg (omega arith)) (room.room 0 leg (omega arith)) in
      let others = legs_fall legs (after leg states) (HaveRoom-rest d n leg legs states f room) in (
        ap (λ z. part_on (market_side d leg.side) z + n * leg.ratio) kept ∙ first,
        from_first leg legs (states_after d n basis_points legs (after leg states)) states apart others,
      )

-- the side of each leg falls by what the formed spreads need
pub formed_fall : (d : Direction) (s : Inter) (states : List CommodityState) → IsInter (length states) s
    → AllByRecursion (λ leg. leg_side d leg (inter_one_way s d states)
    + spreads_formed (commodity_rooms d s.legs states) * leg.ratio ≡ leg_side d leg states) s.legs
formed_fall d s states inter =
    let n : ℕ = spreads_formed (commodity_rooms d s.legs states) in
    legs_fall d n s.basis_points s.legs states (formed_have_room (length states) d s states s.legs n inter refl refl refl)

pub others_stay : (d : Direction) (s : Inter) (states : List CommodityState) (k : ℕ) → AllByRecursion (λ leg. leg.commodity ≢ k) s.legs
    → state_at (inter_one_way s d states) k ≡ state_at states k
others_stay d s states k apart = others_kept d (spreads_formed (commodity_rooms d s.legs states)) s.basis_points k s.legs states apart
