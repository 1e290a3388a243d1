-- The number of the tier that a month is in.
use Rattle.std.proofs.Common.{◌≡◌, ◌≢◌, ℕ, ◌<◌, ◌≤◌, ◌==◌, Bool, true, false, not, List, refl, sym, ap, ◌∙◌, subst, arith, get_or, length}
use Rattle.std.specs.Prelude.{nat_lt, pos}
use Rattle.std.specs.List.{position_or_len}
use Rattle.std.proofs.lemmas.Bool.Decides.{nat_tests}
use Rattle.std.proofs.lemmas.List.{get_or_default}
use Rattle.std.proofs.lemmas.List.Sums.{position_or_len_is, prefix_len_passes, passes_at_first}
use Rattle.span_tables.specs.declared.records.Tier.{Tier}
use Rattle.spread_stage.specs.Spreads.{is_in_tier}
use Rattle.spread_stage.specs.near.TierPlans.{no_tier, tier_at}
use Rattle.spread_stage.specs.near.TierSums.{AreTiers, has_month, months_of}
use Rattle.spread_stage.specs.declared.months.MonthUnits.{MonthUnits}
use Rattle.spread_stage.proofs.TierSumLemmas.{outside}

module _ {X : Type 0} (p : X → Bool) where
  before_position : (xs : List X) (k : ℕ) (d : X) → k < position_or_len p xs → p (get_or xs k d) ≡ true → ⊥
  before_position xs k d lt passes = let none = prefix_len_passes (λ x. not (p x)) xs k d lt in cc

module _ (tiers : List Tier) (are : AreTiers tiers) (m : MonthUnits) (number : ℕ)
    (is : number ≡ position_or_len (has_month m.month) tiers) where
  abbrev p : Tier → Bool
  p = has_month m.month

  here : number < length tiers → p (tier_at tiers number) ≡ true
  here lt =
      subst (λ n. p (tier_at tiers n) ≡ true) (sym is) (passes_at_first p tiers no_tier (subst (λ n. n < length tiers) is lt))

  never : (k : ℕ) (b : Bool) → nat_lt k number ≡ b → k < length tiers → k ≢ number → p (tier_at tiers k) ≡ true → ⊥
  never k true e lt other passes =
      let below : k < number = grind (arith, nat_tests, e) in
      before_position p tiers k no_tier (subst (λ n. k < n) is below) passes
  never k false e lt other passes =
      let above : number < k = (let le : number ≤ k = grind (arith, nat_tests, e) in omega (arith, le, other)) in
      are.apart k number lt (omega (arith, above, lt)) other m passes (here (omega (arith, above, lt)))

  equal : (k : ℕ) (b : Bool) → (number == k) ≡ b → k < length tiers → p (tier_at tiers k) ≡ true → true ≡ b
  equal k true same lt passes = refl
  equal k false same lt passes =
      let other : k ≢ number = grind (arith, nat_tests, same) in
      absurd (never k (nat_lt k number) refl lt other passes)

  different : (k : ℕ) (b : Bool) → (number == k) ≡ b → k < length tiers → p (tier_at tiers k) ≡ false → false ≡ b
  different k false same lt fails = refl
  different k true same lt fails =
      let at : number ≡ k = grind (arith, nat_tests, same) in
      let passes : p (tier_at tiers k) ≡ true = subst (λ n. p (tier_at tiers n) ≡ true) at (here (omega (arith, at, lt))) in cc

  by_test : (k : ℕ) (b : Bool) → p (tier_at tiers k) ≡ b → k < length tiers → b ≡ (number == k)
  by_test k true e lt = equal k (number == k) refl lt e
  by_test k false e lt = different k (number == k) refl lt e

  -- the month is in a tier exactly if the tier has this number
  pub number_right : (k : ℕ) → k < length tiers → is_in_tier (months_of (tier_at tiers k)) m ≡ (number == k)
  number_right k lt = by_test k (p (tier_at tiers k)) refl lt

-- a tier that has the month is the first that has it, since no other has it
pub only_tier : (tiers : List Tier) → AreTiers tiers → (month number : ℕ) (tier : Tier) → number < length tiers
    → get_or tiers number tier ≡ tier → has_month month tier ≡ true → number ≡ position_or_len (has_month month) tiers
only_tier tiers are month number tier lt at has =
    let m : MonthUnits = record { month = month; units = pos 0 } in
    let here : has_month month (tier_at tiers number) ≡ true =
    ap (has_month month) (get_or_default tiers number no_tier tier lt ∙ at) ∙ has in
    sym (position_or_len_is (has_month month) tiers number no_tier (omega (arith, lt))
    (λ k below. outside (has_month month (tier_at tiers k))
    (λ passes. are.apart k number (omega (arith, below, lt)) lt (λ e. omega (arith, e, below)) m passes here)) (λ within. here))
