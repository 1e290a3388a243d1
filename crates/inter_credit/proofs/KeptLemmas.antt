-- The fields of a state that intercommodity spreads do not change.
use Rattle.std.proofs.Common.{◌≡◌, ℕ, zero, suc, ◌*◌, List, [], ◌∷◌, refl, ◌∙◌}
use Rattle.std.specs.Prelude.{fold}
use Rattle.span_tables.specs.Sides.{market_side}
use Rattle.span_tables.specs.declared.records.CommodityLeg.{CommodityLeg}
use Rattle.span_tables.specs.declared.records.Inter.{Inter}
use Rattle.span_tables.specs.declared.sides.Direction.{Direction}
use Rattle.span_tables.specs.declared.sides.Direction.TheVariants.{ALong, AShort}
use Rattle.span_tables.specs.declared.sides.MarketSide.{MarketSide}
use Rattle.inter_credit.specs.Credits.{change_at, inter_formed_in, inter_both_ways, inter_one_way, state_after, states_after, state_at}
use Rattle.inter_credit.specs.declared.commodity_state.CommodityState.{CommodityState}

-- a function of a state that does not change when a part of its remaining delta is used
module _ {A : Type 0} (of : CommodityState → A)
    (keeps : (on : MarketSide) (used bp : ℕ) (state : CommodityState) → of (state_after on used bp state) ≡ of state) where
  kept_change : (on : MarketSide) (used bp i : ℕ) (states : List CommodityState) (k : ℕ)
      → of (state_at (change_at (state_after on used bp) i states) k) ≡ of (state_at states k)
  kept_change on used bp i [] k = refl
  kept_change on used bp zero (state ∷ states) zero = keeps on used bp state
  kept_change on used bp zero (state ∷ states) (suc k) = refl
  kept_change on used bp (suc i) (state ∷ states) zero = refl
  kept_change on used bp (suc i) (state ∷ states) (suc k) = kept_change on used bp i states k

  kept_legs : (d : Direction) (n bp : ℕ) (legs : List CommodityLeg) (states : List CommodityState) (k : ℕ)
      → of (state_at (states_after d n bp legs states) k) ≡ of (state_at states k)
  kept_legs d n bp [] states k = refl
  kept_legs d n bp (leg ∷ legs) states k =
      kept_legs d n bp legs (change_at (state_after (market_side d leg.side) (n * leg.ratio) bp) leg.commodity states) k
      ∙ kept_change (market_side d leg.side) (n * leg.ratio) bp leg.commodity states k

  kept_ways : (states : List CommodityState) (s : Inter) (k : ℕ) → of (state_at (inter_both_ways states s) k) ≡ of (state_at states k)
  unfolding inter_both_ways
  kept_ways states s k =
      let first : List CommodityState = inter_one_way s ALong states in
      kept_legs AShort (inter_formed_in s AShort first) s.basis_points s.legs first k
      ∙ kept_legs ALong (inter_formed_in s ALong states) s.basis_points s.legs states k

  pub kept : (spreads : List Inter) (states : List CommodityState) (k : ℕ)
      → of (state_at (fold inter_both_ways states spreads) k) ≡ of (state_at states k)
  kept [] states k = refl
  kept (s ∷ spreads) states k = kept spreads (inter_both_ways states s) k ∙ kept_ways states s k
