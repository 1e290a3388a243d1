-- The fields of a record, as `csv` returns them.
use Rattle.std.proofs.Common.{Bor, ◌≡◌, ◌<◌, sym, refl, ℕ, List, length, Option, Some, None, IsSome, option_map}
use Rattle.csv.specs.Records.{field_at}
use Rattle.csv.proofs.RecordFacts.{field-there, field-get}
use Rattle.span_csv.specs.Records.{Fields, text_at}

-- there is a field at each index below the record's length
pub field_present : (o : Option (Bor (List ℕ))) (fields : Fields) (i : ℕ) → i < length fields
    → option_map (λ s. s.now) o ≡ field_at fields i → IsSome o
field_present None fields i inside value = absurd (field-there fields i inside (sym value))
field_present (Some s) fields i inside value = refl

-- the field that the call returns is the field at the index
pub field_same : (o : Option (Bor (List ℕ))) (s : Bor (List ℕ)) (fields : Fields) (i : ℕ)
    → option_map (λ s. s.now) o ≡ field_at fields i → o ≡ Some s → s.now ≡ text_at fields i
field_same None s fields i value e = cc
field_same (Some t) s fields i value e = let same : t ≡ s = cc in rw (← same) (sym (field-get fields i t.now (sym value)))
