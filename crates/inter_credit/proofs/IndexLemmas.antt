-- The index of spreads: what it has, and which spreads are formed in neither direction.
use Rattle.std.proofs.Common.{◌≡◌, ◌≢◌, ◌+◌, ◌-◌, ◌<◌, ◌≤◌, ◌⊎◌, inl, inr, ℕ, zero, suc, List, [], ◌∷◌, ◌++◌}
use Rattle.std.proofs.Common.{length, take, drop, get_or, min, refl, sym, ap, subst, ◌∙◌, arith}
use Rattle.std.specs.List.{All}
use Rattle.std.proofs.lemmas.Bool.{cases_eq}
use Rattle.std.proofs.lemmas.List.{append_assoc, drop_all, drop_min, drop_more, take_min}
use Rattle.std.proofs.lemmas.List.Elements.{All-from_recursion}
use Rattle.span_money.specs.declared.bits.TheConstants.{BITS}
use Rattle.span_tables.specs.Sides.{market_side, spreads_formed}
use Rattle.span_tables.specs.Slots.{IsMarked, numbers_on}
use Rattle.span_tables.specs.declared.leg_index.LegAt.{LegAt}
use Rattle.span_tables.specs.declared.leg_index.LegIndex.{LegIndex}
use Rattle.span_tables.specs.declared.records.CommodityLeg.{CommodityLeg}
use Rattle.span_tables.specs.declared.records.Inter.{Inter}
use Rattle.span_tables.specs.declared.sides.Direction.{Direction}
use Rattle.span_tables.specs.declared.slots.OpenSides.{OpenSides}
use Rattle.span_tables.specs.near.LegIndex.{HasEnds, IsOpenLeg}
use Rattle.inter_credit.specs.Credits.{commodity_rooms, inter_formed_in}
use Rattle.inter_credit.specs.near.Index.{AreBlocks, AreCovered, FormsNothing, HasSpread}
use Rattle.inter_credit.specs.near.Open.{AreOpen}
use Rattle.inter_credit.specs.declared.commodity_state.CommodityState.{CommodityState}
use Rattle.inter_credit.proofs.OpenLemmas.{legs_marked}

-- one more spread is covered
pub covered_to : (block before : LegIndex) (spreads : List Inter) (n : ℕ)
    → ((k : ℕ) (f l : LegAt) → HasEnds before k f l → HasEnds block k f l)
    → ((k : ℕ) (d : Inter) → k < n → HasSpread before k (get_or spreads k d).legs)
    → ((d : Inter) → HasSpread block n (get_or spreads n d).legs)
    → (k : ℕ) (d : Inter) → k < n + 1 → HasSpread block k (get_or spreads k d).legs
covered_to block before spreads n more covered here k d lt = by (cases_eq k n)
  where
    by : (k ≡ n) ⊎ (k ≢ n) → HasSpread block k (get_or spreads k d).legs
    by (inl same) = subst (λ (j : ℕ). HasSpread block j (get_or spreads j d).legs) (sym same) (here d)
    by (inr other) = λ x some. more k _ _ (covered k d (omega (arith, lt, other)) x some)

-- a spread whose first or last leg has no remaining delta on the side of the market that it needs is not formed
pub not_found : (block : LegIndex) (number : ℕ) (spread : Inter) (sides : OpenSides) (states : List CommodityState) → AreOpen sides states
    → HasSpread block number spread.legs
    → ((f l : LegAt) → HasEnds block number f l → (d : Direction) → IsOpenLeg sides d f → IsOpenLeg sides d l → ⊥)
    → FormsNothing states spread
not_found block number spread sides states open_sides has closed d = by (inter_formed_in spread d states) refl
  where
    marked : (legs : List CommodityLeg) → HasSpread block number legs
        → All (λ leg. IsMarked (numbers_on (market_side d leg.side) sides) leg.commodity) legs
        → 0 < spreads_formed (commodity_rooms d legs states) → ⊥
    marked [] ends all some = absurd (omega (arith, some))
    marked (leg ∷ legs) ends all some =
        closed _ _ (ends leg (omega arith)) d (all 0 leg (omega arith)) (all (length (leg ∷ legs) - 1) leg (omega arith))

    by : (n : ℕ) → inter_formed_in spread d states ≡ n → inter_formed_in spread d states ≡ 0
    by zero e = e
    by (suc n) e =
        let some : 0 < spreads_formed (commodity_rooms d spread.legs states) = omega (arith, e) in
        absurd (marked spread.legs has (All-from_recursion (λ leg. IsMarked (numbers_on (market_side d leg.side) sides) leg.commodity)
        spread.legs (legs_marked d sides states open_sides spread.legs some)) some)

-- ---- blocks

pub next_block : (blocks : List LegIndex) (i : ℕ) (d : LegIndex) (left : List Inter) → i < length blocks
    → AreBlocks (drop i blocks) left → AreBlocks (get_or blocks i d ∷ drop (i + 1) blocks) left
next_block blocks i d left lt are = subst (λ (bs : List LegIndex). AreBlocks bs left) (drop_more blocks i d lt) are

pub no_block : (blocks : List LegIndex) (i : ℕ) (left : List Inter) → length blocks ≤ i → AreBlocks (drop i blocks) left → left ≡ []
no_block blocks i left le are = subst (λ (bs : List LegIndex). AreBlocks bs left) (drop_all i blocks le) are

-- one more block is added behind the others
pub block_added : (blocks after : List LegIndex) (block : LegIndex) (spreads left now later : List Inter)
    → after ≡ blocks ++ block ∷ [] → now ≡ take (min BITS (length left)) left → later ≡ drop (min BITS (length left)) left
    → AreCovered block now
    → ((rest : List LegIndex) → AreBlocks rest left → AreBlocks (blocks ++ rest) spreads)
    → (rest : List LegIndex) → AreBlocks rest later → AreBlocks (after ++ rest) spreads
block_added blocks after block spreads left now later is front back covered before rest are =
    let whole : AreBlocks (block ∷ rest) left = (
      subst (AreCovered block) (front ∙ take_min BITS left) covered,
      subst (AreBlocks rest) (back ∙ drop_min BITS left) are,
    ) in
    subst (λ (bs : List LegIndex). AreBlocks bs spreads)
    (sym (ap (λ (bs : List LegIndex). bs ++ rest) is ∙ append_assoc blocks (block ∷ []) rest))
    (before (block ∷ rest) whole)
