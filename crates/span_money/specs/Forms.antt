-- The forms of number texts, as the lemmas state them.
use Rattle.std.specs.Prelude.{◌≡◌, ℕ, ◌+◌, ◌*◌, Bool, true, if◌then◌else◌, List, [], ◌∷◌, ◌++◌, Some, ℤ}
use Rattle.span_money.specs.Numbers.{are_digits, digits_value, fraction, with_sign}

-- a text is a decimal that spells z, in 10^-4: an optional minus, 1 to 6 digits, and a fraction
pub record IsDecimal (text : List ℕ) (z : ℤ) : Type 0 where
  pub negative : Bool
  pub front : List ℕ
  pub back : List ℕ
  pub part : ℕ
  pub split : text ≡ (if negative then 45 ∷ [] else []) ++ (front ++ back)
  pub digits : are_digits 6 front ≡ true
  pub fraction_is : fraction back ≡ Some part
  pub value : z ≡ with_sign negative (digits_value front * 10000 + part)
