-- An intercommodity spread forms in at most one direction.
use Rattle.std.proofs.Common.{◌≡◌, ◌/◌, ◌<◌, ℕ, ℤ, zero, suc, pos, negsuc, List, [], ◌∷◌, length, refl, ap, ◌∙◌, arith, ◌⊎◌, inl, inr}
use Rattle.std.proofs.Math.Nat.{zero-div}
use Rattle.span_tables.specs.Accepted.{IsInter}
use Rattle.span_tables.specs.Sides.{IsLeftOf, market_side, part_on, spreads_formed}
use Rattle.span_tables.specs.declared.records.CommodityLeg.{CommodityLeg}
use Rattle.span_tables.specs.declared.records.Inter.{Inter}
use Rattle.span_tables.specs.declared.sides.Side.{Side}
use Rattle.span_tables.specs.declared.sides.Side.TheVariants as side
use Rattle.span_tables.specs.declared.sides.Direction.TheVariants.{ALong, AShort}
use Rattle.inter_credit.specs.Credits.{commodity_rooms, inter_formed_both, inter_formed_in, inter_one_way, rest_at}
use Rattle.inter_credit.specs.declared.commodity_state.CommodityState.{CommodityState}
use Rattle.inter_credit.proofs.StateLemmas.{rest_of_state}
use Rattle.inter_credit.proofs.RestLaws.{one_way_uses}
use Rattle.span_tables.proofs.SideLemmas.{side_above}

-- a delta on a leg's side with A long leaves no remaining delta on the leg's side with A short
other_side : (on : Side) (before after : ℤ) → IsLeftOf before after → 0 < part_on (market_side ALong on) before
    → part_on (market_side AShort on) after ≡ 0
other_side side.A (pos n) after left some = let h = left.short in omega (arith, h)
other_side side.A (negsuc n) after left some = absurd (omega (arith, some))
other_side side.B (pos n) after left some = absurd (omega (arith, some))
other_side side.B (negsuc n) after left some = let h = left.long in omega (arith, h)

module _ (before after : List CommodityState) (left : (k : ℕ) → IsLeftOf (rest_at before k) (rest_at after k)) where
  none_of : (leg : CommodityLeg) → 0 < part_on (market_side ALong leg.side) (rest_at before leg.commodity) / leg.ratio
      → part_on (market_side AShort leg.side) (rest_at after leg.commodity) / leg.ratio ≡ 0
  none_of leg some =
      let none = other_side leg.side _ _ (left leg.commodity) (side_above _ leg.ratio some) in
      ap (λ n. n / leg.ratio) none ∙ zero-div leg.ratio

  none_with_a_short : (legs : List CommodityLeg) → 0 < spreads_formed (commodity_rooms ALong legs before)
      → spreads_formed (commodity_rooms AShort legs after) ≡ 0
  none_with_a_short [] some = refl
  none_with_a_short (leg ∷ []) some = none_of leg some
  none_with_a_short (leg ∷ next ∷ legs) some = let none = none_of leg (omega (arith, some)) in omega (arith, none)

pub one_direction : (states : List CommodityState) (s : Inter) → IsInter (length states) s
    → ((inter_formed_both states s).a_long ≡ 0) ⊎ ((inter_formed_both states s).a_short ≡ 0)
one_direction states s inter = by_count (inter_formed_in s ALong states) refl where
  left : (k : ℕ) → IsLeftOf (rest_at states k) (rest_at (inter_one_way s ALong states) k)
  left k =
      let uses = one_way_uses s ALong states inter k in
      rw (rest_of_state states k, rest_of_state (inter_one_way s ALong states) k) uses.rest

  by_count : (n : ℕ) → inter_formed_in s ALong states ≡ n
      → ((inter_formed_both states s).a_long ≡ 0) ⊎ ((inter_formed_both states s).a_short ≡ 0)
  by_count zero e = inl e
  by_count (suc n) e = inr (none_with_a_short states (inter_one_way s ALong states) left s.legs (omega (arith, e)))
