-- Spreads that form nothing, and blocks of spreads.
use Rattle.std.proofs.Common.{◌≡◌, ◌/◌, ◌<◌, ◌≤◌, ℕ, ℤ, suc, min, List, [], ◌∷◌, length, take, drop, sym, ap, subst, ◌∙◌, arith}
use Rattle.std.specs.List.{All}
use Rattle.std.specs.Prelude.{fold}
use Rattle.std.proofs.Math.Nat.{div-mul-le_self}
use Rattle.std.proofs.lemmas.List.{take-append-drop}
use Rattle.std.proofs.lemmas.List.Sums.{fold-append}
use Rattle.std.proofs.lemmas.Nat.{le-div}
use Rattle.span_tables.specs.Accepted.{IsInter}
use Rattle.span_tables.specs.Sides.{IsLeftOf, market_side, part_on, spreads_formed}
use Rattle.span_tables.specs.declared.records.CommodityLeg.{CommodityLeg}
use Rattle.span_tables.specs.declared.records.Inter.{Inter}
use Rattle.span_tables.specs.declared.sides.Direction.{Direction}
use Rattle.span_tables.specs.declared.sides.MarketSide.{MarketSide}
use Rattle.span_tables.specs.declared.sides.MarketSide.TheVariants.{Long, Short}
use Rattle.inter_credit.specs.Credits.{commodity_rooms, inter_both_ways, inter_formed_in, leg_side, rest_at, state_at}
use Rattle.inter_credit.specs.near.Index.{FormsNothing}
use Rattle.inter_credit.specs.declared.commodity_state.CommodityState.{CommodityState}
use Rattle.inter_credit.proofs.RestLaws.{both_ways_use}
use Rattle.inter_credit.proofs.StateLemmas.{rest_of_state}

-- ---- what forms nothing goes on to form nothing

-- a larger side has room for as many spreads
more_fit : (side larger ratio : ℕ) → side ≤ larger → 0 < ratio → side / ratio ≤ larger / ratio
more_fit side larger ratio le some =
    le-div (side / ratio) larger ratio some (omega (arith, le, div-mul-le_self side ratio))

less_on : (on : MarketSide) (before after : ℤ) → IsLeftOf before after → part_on on after ≤ part_on on before
less_on Long before after left = left.long
less_on Short before after left = left.short

-- remaining deltas that are parts of earlier ones form no more spreads
less_formed : (d : Direction) (legs : List CommodityLeg) (before after : List CommodityState) → All (λ leg. 0 < leg.ratio) legs
    → ((c : ℕ) → IsLeftOf (rest_at before c) (rest_at after c))
    → spreads_formed (commodity_rooms d legs after) ≤ spreads_formed (commodity_rooms d legs before)
less_formed d [] before after ratios left = omega arith
less_formed d (leg ∷ []) before after ratios left =
    more_fit (leg_side d leg after) (leg_side d leg before) leg.ratio
    (less_on (market_side d leg.side) (rest_at before leg.commodity) (rest_at after leg.commodity) (left leg.commodity))
    (ratios 0 leg (omega arith))
less_formed d (leg ∷ next ∷ legs) before after ratios left =
    let here : leg_side d leg after / leg.ratio ≤ leg_side d leg before / leg.ratio =
    more_fit (leg_side d leg after) (leg_side d leg before) leg.ratio
    (less_on (market_side d leg.side) (rest_at before leg.commodity) (rest_at after leg.commodity) (left leg.commodity))
    (ratios 0 leg (omega arith)) in
    let later : spreads_formed (commodity_rooms d (next ∷ legs) after) ≤ spreads_formed (commodity_rooms d (next ∷ legs) before) =
    less_formed d (next ∷ legs) before after (λ k e lt. ratios (suc k) e (omega arith)) left in
    less_of_both _ _ _ _ here later
  where
    less_of_both : (a b c e : ℕ) → a ≤ b → c ≤ e → min a c ≤ min b e
    less_of_both a b c e p q = omega (arith, p, q)

-- a spread that forms nothing forms nothing after another spread
pub still_nothing : (states after : List CommodityState) (other spread : Inter) → IsInter (length states) other
    → IsInter (length states) spread → after ≡ inter_both_ways states other → FormsNothing states spread → FormsNothing after spread
still_nothing states after other spread inter of is nothing d =
    let less = less_formed d spread.legs states (inter_both_ways states other) of.ratios_above
    (λ c. subst (λ (z : ℤ). IsLeftOf z (rest_at (inter_both_ways states other) c)) (sym (rest_of_state states c))
    (subst (IsLeftOf (state_at states c).rest) (sym (rest_of_state (inter_both_ways states other) c))
    (both_ways_use states other inter c).rest)) in
    let none : inter_formed_in spread d (inter_both_ways states other) ≡ 0 = omega (arith, less, nothing d) in
    ap (inter_formed_in spread d) is ∙ none

-- ---- blocks of spreads

-- the spreads of a block were formed, and then come the spreads of the blocks after it
pub fold_block : (start states after : List CommodityState) (spreads left block later : List Inter) (n : ℕ)
    → fold inter_both_ways states left ≡ fold inter_both_ways start spreads → block ≡ take (min n (length left)) left
    → later ≡ drop (min n (length left)) left → after ≡ fold inter_both_ways states block
    → fold inter_both_ways after later ≡ fold inter_both_ways start spreads
fold_block start states after spreads left block later n before front back is =
    ap (λ ss. fold inter_both_ways ss later) (is ∙ ap (fold inter_both_ways states) front)
    ∙ ap (fold inter_both_ways (fold inter_both_ways states (take (min n (length left)) left))) back
    ∙ sym (fold-append inter_both_ways states (take (min n (length left)) left) (drop (min n (length left)) left))
    ∙ ap (fold inter_both_ways states) (take-append-drop (min n (length left)) left) ∙ before
