-- Lemmas about sums of whole numbers.
use Rattle.std.proofs.Common.{◌≡◌, Bool, true, false, cond, List, [], ◌∷◌, arith}
use Rattle.std.specs.Prelude.{ℤ, pos, ◌+ℤ◌, fold}
use Rattle.std.proofs.lemmas.Int.{ints}
use Rattle.span_money.specs.Numbers.{int_sum_by}

module _ {X : Type 0} (f : X → ℤ) where
  -- a sum that starts from a
  pub int_sum_from : (a : ℤ) (xs : List X) → fold (λ t x. t +ℤ f x) a xs ≡ a +ℤ int_sum_by f xs
  int_sum_from a [] = omega (arith, ints)
  int_sum_from a (x ∷ xs) =
      let h = int_sum_from (a +ℤ f x) xs in
      let z = int_sum_from (pos 0 +ℤ f x) xs in
      omega (arith, ints, h, z)

  pub int_sum_by-cons : (x : X) (xs : List X) → int_sum_by f (x ∷ xs) ≡ f x +ℤ int_sum_by f xs
  int_sum_by-cons x xs = let z = int_sum_from (pos 0 +ℤ f x) xs in omega (arith, ints, z)

  -- the sum with an element that may be absent
  pub int_sum_by-if : (b : Bool) (x : X) (xs : List X) → int_sum_by f (cond b (x ∷ xs) xs) ≡ cond b (f x) (pos 0) +ℤ int_sum_by f xs
  int_sum_by-if true x xs = int_sum_by-cons x xs
  int_sum_by-if false x xs = omega (arith, ints)
