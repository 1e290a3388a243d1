-- Position records read one after another give the result of the definition for the whole file.
use Rattle.std.proofs.Common.{◌≡◌, ◌∙◌, refl, sym, ap, inl, inr, ℕ, ◌+◌, ℤ, List, [], ◌∷◌, ◌++◌, length, map, Some, Result, Ok, Err}
use Rattle.std.proofs.lemmas.Bool.{cases_Bool}
use Rattle.std.proofs.lemmas.List.{length-map}
use Rattle.span_tables.specs.Laws.{IsFaultFree}
use Rattle.span_tables.specs.Names.{distinct}
use Rattle.span_tables.proofs.NameLemmas.{is_among-distinct}
use Rattle.span_tables.specs.declared.limits.TheConstants.{MAX_ACCOUNTS}
use Rattle.span_tables.specs.declared.records.PositionRecord.{PositionRecord}
use Rattle.span_money.specs.Numbers.{whole_number}
use Rattle.span_csv.specs.Records.{Fields, records_of, text_at, position_record}
use Rattle.span_csv.specs.PositionFaults.{exceeds_accounts, form_faults, position_faults, positions_of, record_fault, record_faults}
use Rattle.span_csv.specs.near.NumberedReading.{next_position, position_behind, quantity_alone}
use Rattle.span_csv.specs.near.RecordReading.{records_after}
use Rattle.span_csv.specs.declared.positions.TheConstants.{POSITION_NAMES}
use Rattle.span_csv.specs.declared.faults.PositionFault.{PositionFault}
use Rattle.span_csv.specs.declared.faults.PositionFault.TheVariants as fault
use Rattle.span_csv.proofs.AloneLemmas.{left_alone, left_by, with_quantity}
use Rattle.span_csv.proofs.CountedLaws.{free_counted}
use Rattle.span_csv.proofs.RecordLemmas.{records_after-judged}

-- the texts of the records' first fields
abbrev pub names_of : List Fields → List (List ℕ)
names_of before = map (λ r. text_at r 0) before

-- the accounts of records are the texts of their first fields
pub record_accounts : (before : List Fields) → map (λ (p : PositionRecord). p.account) (map position_record before) ≡ names_of before
unfolding position_record
record_accounts [] = refl
record_accounts (r ∷ before) = ap (λ rest. text_at r 0 ∷ rest) (record_accounts before)

module _ (at : ℕ) (before : List Fields) (r : Fields) where
  position_of : Result ℤ PositionFault → Result PositionRecord PositionFault
  position_of o = position_behind POSITION_NAMES MAX_ACCOUNTS at (distinct (names_of before)) r o

  by_quantity : (o : Result ℤ PositionFault) → position_of o ≡ with_quantity (λ e. e) (λ q. position_of (Ok q)) o
  unfolding position_of
  by_quantity (Err e) = refl
  by_quantity (Ok q) = refl

  within : (q : ℤ) → whole_number (text_at r 2) ≡ Some q → position_of (Ok q)
      ≡ left_by at (position_record r) ((exceeds_accounts before r, fault.TooManyAccounts) ∷ [])
  unfolding position_of position_record
  within q is =
      elim (cases_Bool (exceeds_accounts before r)) [
        | inl over ↦ rw (is_among-distinct (names_of before) (text_at r 0), over) refl
        | inr room ↦ rw (is_among-distinct (names_of before) (text_at r 0), room, is) refl
      ]

  -- the position of a record, or the first of its faults
  judged : position_of (quantity_alone POSITION_NAMES at r)
      ≡ left_by at (position_record r) (form_faults r ++ (exceeds_accounts before r, fault.TooManyAccounts) ∷ [])
  judged =
      by_quantity (quantity_alone POSITION_NAMES at r)
      ∙ left_alone (λ e. e) POSITION_NAMES at r ((exceeds_accounts before r, fault.TooManyAccounts) ∷ []) (position_record r)
      (λ q. position_of (Ok q)) within

-- the next record gives its lowest-numbered fault, or a position
next_position-judged : (before : List Fields) (r : Fields) → IsFaultFree record_fault [] before
    → next_position POSITION_NAMES MAX_ACCOUNTS (map position_record before) r
    ≡ left_by (length before + 1) (position_record r) (record_faults before r)
unfolding next_position position_of
next_position-judged before r free =
    rw (length-map before position_record, record_accounts before)
    (judged (length before + 1) before r
    ∙ ap (λ rs. left_by (length before + 1) (position_record r) (form_faults r ++ (exceeds_accounts rs r, fault.TooManyAccounts) ∷ []))
    (sym (free_counted [] before refl free)))

-- reading from the first record on gives the result of the definition
pub positions_of-reading : (bytes : List ℕ)
    → records_after (next_position POSITION_NAMES MAX_ACCOUNTS) [] (records_of bytes) ≡ positions_of bytes
unfolding positions_of position_faults
positions_of-reading bytes =
    records_after-judged (next_position POSITION_NAMES MAX_ACCOUNTS) record_fault
    position_record next_position-judged (records_of bytes)
