-- The faults of a position file's records.
use Rattle.std.specs.Prelude.{ℕ, Bool, not, ◌&&◌, ◌==◌, List, [], ◌∷◌, ◌++◌, length, map, filter, is_none, Option, Result, true, false}
use Rattle.span_tables.specs.Faults.{first_that_holds, all_faults, first_of, ok_unless}
use Rattle.span_tables.specs.Names.{is_among, distinct}
use Rattle.span_csv.specs.Records.{Fields, records_of, text_at, all_have, has_word_form}
use Rattle.span_csv.specs.Records.{has_number_form, is_in_range, position_forms, position_record}
use Rattle.span_tables.specs.declared.records.PositionRecord.{PositionRecord}
use Rattle.span_csv.specs.declared.faults.PositionFault.{PositionFault}
use Rattle.span_csv.specs.declared.faults.PositionFault.TheVariants as fault
use Rattle.span_tables.specs.declared.limits.TheConstants.{MAX_ACCOUNTS}

-- the faults Q1 to Q4 that a record may have, in the order of their numbers
abbrev pub form_faults : Fields → List (Bool × (ℕ → PositionFault))
form_faults r =
    (not (length r == length position_forms), fault.FieldCount)
    ∷ (not (all_have has_word_form position_forms r), fault.BadName)
    ∷ (not (all_have has_number_form position_forms r), fault.BadNumber)
    ∷ (not (all_have is_in_range position_forms r), fault.OutOfRange)
    ∷ []

-- the record has none of Q1 to Q4
abbrev pub is_formed : Fields → Bool
is_formed r = is_none (first_that_holds (form_faults r))

-- the records whose accounts the limit counts: the records without one of Q1 to Q4
abbrev pub counted : List Fields → List Fields
counted rs = filter is_formed rs

-- the account is new, and these counted records already have the maximum number of accounts
abbrev pub exceeds_accounts : List Fields → Fields → Bool
exceeds_accounts rs r =
    let accounts = map (λ x. text_at x 0) rs in
    not (is_among accounts (text_at r 0)) && (length (distinct accounts) == MAX_ACCOUNTS)

-- the faults that a record may have after the earlier records, in the order of their numbers
abbrev pub record_faults : List Fields → Fields → List (Bool × (ℕ → PositionFault))
record_faults earlier r = form_faults r ++ (exceeds_accounts (counted earlier) r, fault.TooManyAccounts) ∷ []

-- the lowest-numbered fault of a record after the earlier records, as a function of the record's number
abbrev pub record_fault : List Fields → Fields → Option (ℕ → PositionFault)
record_fault earlier r = first_that_holds (record_faults earlier r)

-- all faults of a position file: the fault of each faulty record
unfoldable pub position_faults : List ℕ → List PositionFault
position_faults bytes = all_faults record_fault (records_of bytes)

-- the records of a position file, or its first fault
unfoldable pub positions_of : List ℕ → Result (List PositionRecord) PositionFault
positions_of bytes = ok_unless (first_of (position_faults bytes)) (map position_record (records_of bytes))

-- the fault is out of memory, which the definitions of faults do not cover
abbrev pub is_memory : PositionFault → Bool
is_memory fault.OutOfMemory = true
is_memory _ = false
