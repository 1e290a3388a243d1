-- Intercommodity spreads and their credits.
use Rattle.std.specs.Prelude.{ℕ, zero, suc, ◌+◌, ◌*◌, ◌/◌, ◌^◌, ◌==◌, if◌then◌else◌, List, [], ◌∷◌, map}
use Rattle.std.specs.Prelude.{fold, slice_get, option_map, unwrap_or, ℤ, pos, nat_abs}
use Rattle.span_tables.specs.Sides.{market_side, part_on, less_used, Room, spreads_formed}
use Rattle.span_tables.specs.declared.sides.Direction.{Direction}
use Rattle.span_tables.specs.declared.sides.Direction.TheVariants.{ALong, AShort}
use Rattle.span_tables.specs.declared.sides.MarketSide.{MarketSide}
use Rattle.span_tables.specs.declared.sides.SpreadsFormed.{SpreadsFormed}
use Rattle.span_tables.specs.declared.records.CommodityLeg.{CommodityLeg}
use Rattle.span_tables.specs.declared.records.Inter.{Inter}
use Rattle.inter_credit.specs.declared.commodity_state.CommodityState.{CommodityState}

-- a commodity before any spread: its remaining delta is its full net delta
abbrev pub unspread_state : ℤ → ℕ → CommodityState
unspread_state net price2 = record { net = net; rest = net; price2 = price2; weight = 0 }

-- a list with the element at an index changed
abbrev pub change_at : {A : Type 0} → (A → A) → ℕ → List A → List A
change_at change place [] = []
change_at change zero (x ∷ xs) = change x ∷ xs
change_at change (suc place) (x ∷ xs) = x ∷ change_at change place xs

-- the remaining delta of a commodity
abbrev pub rest_at : List CommodityState → ℕ → ℤ
rest_at states c = unwrap_or (option_map (λ state. state.rest) (slice_get states c)) (pos 0)

-- the part of its commodity's remaining delta that a leg can use, in a direction
abbrev pub leg_side : Direction → CommodityLeg → List CommodityState → ℕ
leg_side d leg states = part_on (market_side d leg.side) (rest_at states leg.commodity)

-- the sides and ratios of a spread's legs, in a direction
abbrev pub commodity_rooms : Direction → List CommodityLeg → List CommodityState → List Room
commodity_rooms d legs states = map (λ leg. record { side = leg_side d leg states; ratio = leg.ratio }) legs

-- a commodity after units on a market side were used, at a number of basis points
abbrev pub state_after : MarketSide → ℕ → ℕ → CommodityState → CommodityState
state_after on used basis_points state =
    record state { rest = less_used on state.rest used; weight = state.weight + used * basis_points }

-- the commodities after each leg was used for n spreads
abbrev pub states_after : Direction → ℕ → ℕ → List CommodityLeg → List CommodityState → List CommodityState
states_after d n basis_points legs states =
    fold
    (λ ls leg. change_at (state_after (market_side d leg.side) (n * leg.ratio) basis_points) leg.commodity ls)
    states legs

-- the number of spreads that a spread forms in a direction, in 10^-4 spreads
abbrev pub inter_formed_in : Inter → Direction → List CommodityState → ℕ
inter_formed_in s d states = spreads_formed (commodity_rooms d s.legs states)

-- the commodities after a spread in one direction
abbrev pub inter_one_way : Inter → Direction → List CommodityState → List CommodityState
inter_one_way s d states = states_after d (inter_formed_in s d states) s.basis_points s.legs states

-- the commodities after a spread in both directions, with A long first
unfoldable pub inter_both_ways : List CommodityState → Inter → List CommodityState
inter_both_ways states s = inter_one_way s AShort (inter_one_way s ALong states)

-- the number of spreads that a spread forms in each direction; with A short it uses what A long leaves
abbrev pub inter_formed_both : List CommodityState → Inter → SpreadsFormed
inter_formed_both states s =
    record { a_long = inter_formed_in s ALong states; a_short = inter_formed_in s AShort (inter_one_way s ALong states) }

-- the commodities after the spreads of the parameter set, in order
unfoldable pub after_inter_spreads : List Inter → List CommodityState → List CommodityState
after_inter_spreads spreads states = fold inter_both_ways states spreads

-- the basis points of a whole
abbrev pub whole : ℕ
whole = 10 ^ 4

-- the credit of a commodity: price2 * weight / (2 * 10^4 * |net|) rounded down, or 0 if its net delta is 0
unfoldable pub credit_of : CommodityState → ℕ
credit_of state = if nat_abs state.net == 0 then 0 else (state.price2 * state.weight) / (2 * whole * nat_abs state.net)

-- the state of a commodity number
abbrev pub state_at : List CommodityState → ℕ → CommodityState
state_at states commodity = unwrap_or (slice_get states commodity) (unspread_state (pos 0) 0)

-- the credit of a commodity number
abbrev pub credit_at : List CommodityState → ℕ → ℕ
credit_at states commodity = unwrap_or (option_map credit_of (slice_get states commodity)) 0
