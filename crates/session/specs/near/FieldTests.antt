-- The tests of fields, by their names.
use Rattle.std.specs.Prelude.{◌≡◌, ⊤, ℕ, Bool, true, pos, List, [], ◌∷◌, Option, unwrap_or}
use Rattle.span_money.specs.Numbers.{whole_number}
use Rattle.span_tables.specs.Names.{is_name}
use Rattle.session.specs.Requests.{field_where, is_bad_name, is_bad_number, is_out_of_range, is_quantity}
use Rattle.session.specs.declared.requests.FieldTest.{FieldTest}
use Rattle.session.specs.declared.requests.FieldTest.TheVariants as test
use Rattle.session.specs.declared.requests.Word.{Word}

-- the field with this number fails the test
abbrev pub fails : FieldTest → Word → ℕ → List ℕ → Bool
fails test.Name w n text = is_bad_name w n text
fails test.Number w n text = is_bad_number w n text
fails test.Range w n text = is_out_of_range w n text

-- the number of the first field after the word that fails
abbrev pub field_failing : FieldTest → Word → List (List ℕ) → Option ℕ
field_failing t w fields = field_where (fails t w) fields

-- the fields are pairs of a contract, which is a name, and a quantity in range
abbrev pub AreTrades : List (List ℕ) → Type 0
AreTrades [] = ⊤
AreTrades (contract ∷ []) = ⊤
AreTrades (contract ∷ quantity ∷ rest) =
    (is_name contract ≡ true) × (is_quantity (unwrap_or (whole_number quantity) (pos 0)) ≡ true) × AreTrades rest
