-- A position in a plain line: its account, a comma, its contract, a comma, and its quantity up to the line feed.
use Rattle.std.specs.Prelude.{◌≡◌, ℕ, ℤ, List, [], ◌∷◌, ◌++◌, Some, true}
use Rattle.span_money.specs.Numbers.{whole_number}
use Rattle.span_tables.specs.Names.{is_name}
use Rattle.span_csv.specs.Records.{Fields}
use Rattle.span_csv.specs.near.NumberedReading.{is_quantity}

-- a plain line, with its quantity as text, and the bytes after it
abbrev pub line_of : List ℕ → List ℕ → List ℕ → List ℕ → List ℕ
line_of account contract text rest = account ++ 44 ∷ (contract ++ 44 ∷ (text ++ 10 ∷ rest))

-- the bytes begin with a plain line, and `rest` are the bytes after it
pub record IsPlainLine (account contract : List ℕ) (quantity : ℤ) (rest bytes : List ℕ) : Type 0 where
  pub text : List ℕ
  pub bytes_are : bytes ≡ line_of account contract text rest
  pub named : is_name contract ≡ true
  pub number : whole_number text ≡ Some quantity
  pub small : is_quantity quantity ≡ true

-- the first row is such a position, and `rest` are the rows after it
pub record IsPositionIn (account contract : List ℕ) (quantity : ℤ) (rest rows : List Fields) : Type 0 where
  pub text : List ℕ
  pub rows_are : rows ≡ (account ∷ contract ∷ text ∷ []) ∷ rest
  pub account_named : is_name account ≡ true
  pub contract_named : is_name contract ≡ true
  pub number : whole_number text ≡ Some quantity
  pub small : is_quantity quantity ≡ true
