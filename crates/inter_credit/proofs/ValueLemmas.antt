-- The option value of held contracts: one more contract, and a bound on its size.
use Rattle.std.proofs.Common.{◌≡◌, ℕ, zero, suc, ◌+◌, ◌*◌, ◌<◌, ◌≤◌, List, length, take, ap, sym, ◌∙◌, refl, arith, inl, inr, ℤ}
use Rattle.std.proofs.Common.{pos, negsuc, neg_ℤ, ◌+ℤ◌, ◌-ℤ◌, ◌*ℤ◌, ◌⊎◌}
use Rattle.std.specs.Prelude.{IfSome, None, Option, Some, nat_abs, slice_get}
use Rattle.std.proofs.Math.Nat.{mul-le-mul_right}
use Rattle.std.proofs.lemmas.Int.{ints}
use Rattle.std.proofs.lemmas.List.Sums.{fold_more}
use Rattle.span_money.specs.Numbers.{positive_part}
use Rattle.span_money.proofs.WordLemmas.{product_size}
use Rattle.span_tables.specs.Holdings.{AreHeld}
use Rattle.span_tables.specs.Net.{HeldContract}
use Rattle.span_tables.specs.declared.limits.TheConstants.{MAX_HELD, MAX_NET, MAX_OPTION_VALUE}
use Rattle.span_tables.specs.declared.contracts.Terms.{Terms}
use Rattle.span_tables.specs.near.Terms.{AreTermsOf}
use Rattle.span_tables.proofs.HeldBounds.{int_sum_size}
use Rattle.span_tables.proofs.HeldLemmas.{held_here}
use Rattle.inter_credit.specs.OptionValue.{due_of, excess_of, net_value_of, position_value}
use Rattle.inter_credit.specs.declared.option_value.TheConstants.{MAX_NET_VALUE, MAX_POSITION_VALUE}

-- the value of a held contract is within its limit
pub position_small : (net : ℤ) (value : ℕ) → nat_abs net ≤ MAX_NET → value ≤ MAX_OPTION_VALUE
    → nat_abs (net *ℤ pos value) ≤ MAX_POSITION_VALUE
position_small net value x y = product_size net (pos value) MAX_NET MAX_OPTION_VALUE x y

-- the value of the held contract at an index, given by its terms and its net
pub position_told : (held : List HeldContract) (i : ℕ) (t : Terms) (n value : ℤ) → value ≡ n *ℤ pos t.option_value
    → IfSome (slice_get held i) (λ h. AreTermsOf h.contract t) → IfSome (slice_get held i) (λ h. n ≡ h.net)
    → IfSome (slice_get held i) (λ h. value ≡ position_value h)
position_told held i t n value is terms net = told (slice_get held i) terms net where
  told : (o : Option HeldContract) → IfSome o (λ h. AreTermsOf h.contract t) → IfSome o (λ h. n ≡ h.net)
      → IfSome o (λ h. value ≡ position_value h)
  told None terms net = tt
  told (Some h) terms net = is ∙ (λ j. net j *ℤ pos (terms.option_value j))

-- one more held contract, given by its terms and its net
pub net_value_more : (held : List HeldContract) (i : ℕ) (t : Terms) (n : ℤ) → i < length held
    → IfSome (slice_get held i) (λ h. AreTermsOf h.contract t) → IfSome (slice_get held i) (λ h. n ≡ h.net)
    → net_value_of (take (i + 1) held) ≡ net_value_of (take i held) +ℤ n *ℤ pos t.option_value
unfolding net_value_of
net_value_more held i t n lt terms net =
    let here = held_here held i t n lt terms net in
    fold_more (λ (a : ℤ) y. a +ℤ position_value y) (pos 0) held i here.0 lt
    ∙ ap (λ (y : HeldContract). net_value_of (take i held) +ℤ position_value y) (sym here.1)
    ∙ (λ j. net_value_of (take i held) +ℤ sym here.3 j *ℤ pos (sym here.2.option_value j))

-- the option value of held contracts is within its limit
pub net_value_small : (held : List HeldContract) → AreHeld held → nat_abs (net_value_of held) ≤ MAX_NET_VALUE
unfolding net_value_of
net_value_small held are =
    let all = int_sum_size position_value MAX_POSITION_VALUE held
    (λ k d lt. position_small _ _ (are.nets k d lt) (are.contracts k d lt).option_value) in
    let few : length held * MAX_POSITION_VALUE ≤ MAX_HELD * MAX_POSITION_VALUE = mul-le-mul_right MAX_POSITION_VALUE are.few in
    omega (arith, all, few)

-- ---- due and excess

pub due_or_excess : (total value : ℤ) → (due_of total value ≡ 0) ⊎ (excess_of total value ≡ 0)
due_or_excess total value = by_sign (total -ℤ value) (value -ℤ total) (omega (arith, ints)) where
  by_sign : (a b : ℤ) → b ≡ neg_ℤ a → (positive_part a ≡ 0) ⊎ (positive_part b ≡ 0)
  by_sign (pos n) b e = inr (rw e (none n)) where
    none : (n : ℕ) → positive_part (neg_ℤ (pos n)) ≡ 0
    none zero = refl
    none (suc n) = refl
  by_sign (negsuc n) b e = inl refl

difference : (z : ℤ) → z ≡ pos (positive_part z) -ℤ pos (positive_part (neg_ℤ z))
difference (pos zero) = refl
difference (pos (suc n)) = omega (arith, ints)
difference (negsuc n) = omega (arith, ints)

pub settled : (total value : ℤ) → total ≡ (value +ℤ pos (due_of total value)) -ℤ pos (excess_of total value)
settled total value =
    let turned : value -ℤ total ≡ neg_ℤ (total -ℤ value) = omega (arith, ints) in
    let parts : total -ℤ value ≡ pos (due_of total value) -ℤ pos (excess_of total value) =
    rw turned (difference (total -ℤ value)) in
    omega (arith, ints, parts)
