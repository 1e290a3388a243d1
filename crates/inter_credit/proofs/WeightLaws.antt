-- The weight of a commodity grows by spreads formed times leg ratio times basis points.
use Rattle.std.proofs.Common.{◌≡◌, ◌≢◌, ◌+◌, ◌*◌, ◌<◌, ◌==◌, ℕ, zero, suc, Bool, true, false, cond, List, [], ◌∷◌}
use Rattle.std.proofs.Common.{filter, length, sum_by, refl, ap, ◌∙◌, arith}
use Rattle.std.proofs.Math.Nat.{add-mul}
use Rattle.std.proofs.lemmas.Bool.Decides.{nat_tests}
use Rattle.std.proofs.lemmas.List.Sums.{sum_by-cons}
use Rattle.span_tables.specs.Sides.{market_side}
use Rattle.span_tables.specs.declared.sides.Direction.{Direction}
use Rattle.span_tables.specs.declared.sides.Direction.TheVariants.{ALong, AShort}
use Rattle.span_tables.specs.declared.records.CommodityLeg.{CommodityLeg}
use Rattle.span_tables.specs.declared.records.Inter.{Inter}
use Rattle.inter_credit.specs.Credits.{change_at, inter_formed_both, inter_formed_in, inter_both_ways, inter_one_way}
use Rattle.inter_credit.specs.Credits.{state_after, state_at, states_after}
use Rattle.inter_credit.specs.declared.commodity_state.CommodityState.{CommodityState}
use Rattle.inter_credit.proofs.StateLemmas.{length-change_at, state_at-change_at}
use Rattle.inter_credit.proofs.MinimumLaws.{by_test}
use Rattle.inter_credit.proofs.RestLaws.{length-states_after}

-- the state at the index of a change
changed_here : (f : CommodityState → CommodityState) (i : ℕ) (states : List CommodityState) → i < length states
    → state_at (change_at f i states) i ≡ f (state_at states i)
changed_here f i [] lt = absurd (omega arith)
changed_here f zero (state ∷ states) lt = refl
changed_here f (suc i) (state ∷ states) lt = changed_here f i states (omega arith)

module _ (d : Direction) (n basis_points c : ℕ) where
  abbrev after : CommodityLeg → List CommodityState → List CommodityState
  after leg states = change_at (state_after (market_side d leg.side) (n * leg.ratio) basis_points) leg.commodity states

  -- the amount that a leg adds to the weight of its commodity
  abbrev part : CommodityLeg → ℕ
  part leg = n * leg.ratio * basis_points

  abbrev is_leg : CommodityLeg → Bool
  is_leg leg = leg.commodity == c

  weight_if : (b : Bool) (leg : CommodityLeg) (states : List CommodityState) → c < length states → is_leg leg ≡ b
      → (state_at (after leg states) c).weight ≡ (state_at states c).weight + cond b (part leg) 0
  weight_if true leg states lt e =
      let f : CommodityState → CommodityState = state_after (market_side d leg.side) (n * leg.ratio) basis_points in
      let same : leg.commodity ≡ c = grind (arith, nat_tests) in
      ap (λ i. (state_at (change_at f i states) c).weight) same ∙ ap (λ (l : CommodityState). l.weight) (changed_here f c states lt)
  weight_if false leg states lt e =
      let f : CommodityState → CommodityState = state_after (market_side d leg.side) (n * leg.ratio) basis_points in
      let other : leg.commodity ≢ c = λ same. grind (arith, nat_tests) in
      ap (λ (l : CommodityState). l.weight) (state_at-change_at f leg.commodity c states other) ∙ omega arith

  weight_after : (legs : List CommodityLeg) (states : List CommodityState) → c < length states
      → (state_at (states_after d n basis_points legs states) c).weight ≡ (state_at states c).weight + sum_by part (filter is_leg legs)
  weight_after [] states lt = omega arith
  weight_after (leg ∷ legs) states lt =
      let f : CommodityState → CommodityState = state_after (market_side d leg.side) (n * leg.ratio) basis_points in
      let long = length-change_at f leg.commodity states in
      let inside : c < length (after leg states) = omega (arith, lt, long) in
      let first = weight_if (is_leg leg) leg states lt refl in
      let others = weight_after legs (after leg states) inside in
      let all = by_test (is_leg leg) part leg (filter is_leg legs) in
      omega (arith, first, others, all)

-- the sum of the amounts that the legs of a commodity add in both directions
both_parts : (n k basis_points : ℕ) (legs : List CommodityLeg)
    → sum_by (λ leg. n * leg.ratio * basis_points) legs + sum_by (λ leg. k * leg.ratio * basis_points) legs
    ≡ sum_by (λ leg. (n + k) * leg.ratio * basis_points) legs
both_parts n k bp [] = refl
both_parts n k bp (leg ∷ legs) =
    let a = sum_by-cons (λ (x : CommodityLeg). n * x.ratio * bp) leg legs in
    let b = sum_by-cons (λ (x : CommodityLeg). k * x.ratio * bp) leg legs in
    let d = sum_by-cons (λ (x : CommodityLeg). (n + k) * x.ratio * bp) leg legs in
    let here : (n + k) * leg.ratio * bp ≡ n * leg.ratio * bp + k * leg.ratio * bp =
    ap (λ m. m * bp) (add-mul n k leg.ratio) ∙ add-mul (n * leg.ratio) (k * leg.ratio) bp in
    let h = both_parts n k bp legs in
    omega (arith, a, b, d, here, h)

-- the weight of any commodity after a spread in both directions
pub weight-inter_both_ways : (states : List CommodityState) (s : Inter) (c : ℕ) → c < length states
    → (state_at (inter_both_ways states s) c).weight
    ≡ (state_at states c).weight
    + sum_by (λ leg. ((inter_formed_both states s).a_long + (inter_formed_both states s).a_short) * leg.ratio * s.basis_points)
    (filter (λ leg. leg.commodity == c) s.legs)
unfolding inter_both_ways
weight-inter_both_ways states s c lt =
    let n : ℕ = inter_formed_in s ALong states in
    let first : List CommodityState = inter_one_way s ALong states in
    let k : ℕ = inter_formed_in s AShort first in
    let of_c : List CommodityLeg = filter (λ leg. leg.commodity == c) s.legs in
    let long : length first ≡ length states = length-states_after ALong n s.basis_points s.legs states in
    let a = weight_after ALong n s.basis_points c s.legs states lt in
    let b = weight_after AShort k s.basis_points c s.legs first (omega (arith, lt, long)) in
    let both = both_parts n k s.basis_points of_c in
    omega (arith, a, b, both)
