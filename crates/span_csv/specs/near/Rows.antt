-- The records of a file, as `csv` reads its bytes and as they appear in lines.
use Rattle.std.specs.Prelude.{◌≡◌, ◌⊎◌, ℕ, ◌+◌, true, false, if◌then◌else◌, List, [], ◌∷◌, ◌++◌, length, map, Option, Some, None, IsSome}
use Rattle.std.specs.Borrow.{Bor}
use Rattle.std.specs.List.{list_any}
use Rattle.memchr.specs.Find.{is_byte2}
use Rattle.csv.specs.Machine.{ends_at_end, field_after, fields_after, is_end, step}
use Rattle.csv.specs.Reading.{records_from, default_config, source_of, Ready, has_failed}
use Rattle.csv.specs.Reading.{reader_config, reader_trim, reader_state, is_flexible}
use Rattle.span_csv.specs.Records.{Fields}
use Rattle.csv.specs.declared.parser.Action.{Action}
use Rattle.csv.specs.declared.parser.State.{State}
use Rattle.csv.specs.declared.parser.State.TheVariants as state
use Rattle.csv.specs.declared.reader.Reader.{Reader}
use Rattle.csv.specs.declared.reader.Trim.TheVariants as trim
use Rattle.span_csv.specs.declared.rows.Form.{Form}
use Rattle.span_csv.specs.declared.rows.Form.TheVariants as form

-- the records from a state on, if the bytes that are left are known
abbrev pub rows_from : State → Option (List ℕ) → List Fields
rows_from state None = []
rows_from state (Some bytes) = records_from default_config (length bytes + 1) state bytes

-- the records that a reader has left
abbrev pub rows_left : Reader (Bor (List ℕ)) → List Fields
rows_left reader = rows_from (reader_state reader) (source_of (λ s. Some s.now) reader)

-- the reader returns each record as it appears in the file
pub record IsPlain (reader : Reader (Bor (List ℕ))) : Type 0 where
  pub config : reader_config reader ≡ default_config
  pub trim : reader_trim reader ≡ trim.None
  pub flexible : is_flexible reader ≡ true
  pub ready : Ready reader
  pub known : IsSome (source_of (λ s. Some s.now) reader)

-- the reader returns each record as it appears in the file, or no more records after an allocation failure
abbrev pub CanRead : Reader (Bor (List ℕ)) → Type 0
CanRead reader = (has_failed reader ≡ true) ⊎ IsPlain reader

-- ---- the records of a text, byte by byte

-- the rows after a byte: a complete record, or more of the current record
abbrev pub rows_by : State → Action → Fields → List ℕ → ℕ → (State → Fields → List ℕ → List Fields) → List Fields
rows_by s a fields field c more =
    if is_end a then fields_after a fields field ∷ more s [] [] else more s (fields_after a fields field) (field_after a c field)

-- the records from a state on, with the fields and the field read so far
abbrev pub rows : State → Fields → List ℕ → List ℕ → List Fields
rows s fields field [] = if ends_at_end s then (fields ++ field ∷ []) ∷ [] else []
rows s fields field (c ∷ rest) =
    rows_by (step default_config s c).0 (step default_config s c).1 fields field c (λ s2 fields2 field2. rows s2 fields2 field2 rest)

-- ---- bytes of lines

-- No byte is a double quote or a carriage return. So each non-empty line is a record, and each comma ends a field.
abbrev pub AreLines : List ℕ → Type 0
AreLines bytes = list_any (is_byte2 34 13) bytes ≡ false

-- the records of lines
abbrev pub rows_in : List ℕ → List Fields
rows_in bytes = rows state.StartRecord [] [] bytes

-- the bytes of borrowed fields
abbrev pub texts_of : List (Bor (List ℕ)) → Fields
texts_of lent = map (λ text. text.now) lent

-- ---- both forms

-- the records that are left
abbrev pub rows_of : Form → List Fields
rows_of (form.Lines bytes) = rows_in bytes.now
rows_of (form.Csv reader) = rows_left reader

-- each record that is left is returned, unless memory runs out
abbrev pub GoesOn : Form → Type 0
GoesOn (form.Lines bytes) = AreLines bytes.now
GoesOn (form.Csv reader) = CanRead reader
