-- If no spread is formed, nothing changes.
use Rattle.std.proofs.Common.{◌≡◌, ◌+◌, ◌*◌, ℕ, ℤ, zero, suc, List, [], ◌∷◌, refl, ap, ◌∙◌, arith}
use Rattle.std.proofs.lemmas.Int.{ints}
use Rattle.std.specs.Prelude.{pos, ◌-ℤ◌, ◌+ℤ◌}
use Rattle.span_tables.specs.Sides.{market_side, less_used, spreads_formed}
use Rattle.span_tables.specs.declared.sides.Direction.{Direction}
use Rattle.span_tables.specs.declared.sides.Direction.TheVariants.{ALong, AShort}
use Rattle.span_tables.specs.declared.sides.MarketSide.{MarketSide}
use Rattle.span_tables.specs.declared.sides.MarketSide.TheVariants.{Long, Short}
use Rattle.span_tables.specs.declared.records.CommodityLeg.{CommodityLeg}
use Rattle.span_tables.specs.declared.records.Inter.{Inter}
use Rattle.inter_credit.specs.Credits.{change_at, commodity_rooms, inter_both_ways, inter_one_way, state_after, states_after}
use Rattle.inter_credit.specs.near.Index.{FormsNothing}
use Rattle.inter_credit.specs.declared.commodity_state.CommodityState.{CommodityState}

none_used : (on : MarketSide) (z : ℤ) → less_used on z 0 ≡ z
none_used Long z = let e : z -ℤ pos 0 ≡ z = omega (arith, ints) in e
none_used Short z = let e : z +ℤ pos 0 ≡ z = omega (arith, ints) in e

no_weight : (w b : ℕ) → w + 0 * b ≡ w
no_weight w b = omega arith

same_state : (on : MarketSide) (b : ℕ) (state : CommodityState) → state_after on 0 b state ≡ state
same_state on b state = rw (none_used on state.rest, no_weight state.weight b) refl

same_states : (f : CommodityState → CommodityState) → ((state : CommodityState) → f state ≡ state)
    → (place : ℕ) (states : List CommodityState)
    → change_at f place states ≡ states
same_states f same place [] = refl
same_states f same zero (state ∷ states) = ap (λ l. l ∷ states) (same state)
same_states f same (suc place) (state ∷ states) = ap (λ ls. state ∷ ls) (same_states f same place states)

none_formed : (d : Direction) (b : ℕ) (legs : List CommodityLeg) (states : List CommodityState) → states_after d 0 b legs states ≡ states
none_formed d b [] states = refl
none_formed d b (leg ∷ legs) states =
    let none : 0 * leg.ratio ≡ 0 = omega arith in
    let step : change_at (state_after (market_side d leg.side) (0 * leg.ratio) b) leg.commodity states ≡ states =
    rw none (same_states (state_after (market_side d leg.side) 0 b) (same_state (market_side d leg.side) b) leg.commodity states) in
    ap (λ ls. states_after d 0 b legs ls) step ∙ none_formed d b legs states

-- the number of spreads formed is 0
pub nothing_formed : (spread : Inter) (d : Direction) (states : List CommodityState)
    → spreads_formed (commodity_rooms d spread.legs states) ≡ 0 → inter_one_way spread d states ≡ states
nothing_formed spread d states none = rw none (none_formed d spread.basis_points spread.legs states)

-- a spread that is formed in neither direction changes nothing
pub nothing_changes : (states : List CommodityState) (spread : Inter) → FormsNothing states spread → inter_both_ways states spread ≡ states
unfolding inter_both_ways
nothing_changes states spread nothing =
    ap (inter_one_way spread AShort) (nothing_formed spread ALong states (nothing ALong))
    ∙ nothing_formed spread AShort states (nothing AShort)
