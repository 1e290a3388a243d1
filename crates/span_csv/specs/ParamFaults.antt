-- The faults of a parameter file's records.
use Rattle.std.specs.Prelude.{ℕ, Bool, false, not, ◌&&◌, ◌==◌, if◌then◌else◌, List, [], ◌∷◌, ◌++◌, length, drop}
use Rattle.std.specs.Prelude.{map, count_by, Option, Some, None, is_none, codes, bytes_eq, Result, true}
use Rattle.std.specs.Option.{option_map_or}
use Rattle.span_tables.specs.Faults.{first_that_holds, all_faults, first_of, ok_unless}
use Rattle.span_csv.specs.Records.{Fields, records_of, kind_of, layout_of, text_at, is_word, a_version}
use Rattle.span_csv.specs.Records.{all_have, has_word_form, has_number_form, is_in_range, count_at, param_record}
use Rattle.span_tables.specs.declared.records.Record.{Record}
use Rattle.span_csv.specs.declared.faults.ParamFault.{ParamFault}
use Rattle.span_csv.specs.declared.faults.ParamFault.TheVariants as fault
use Rattle.span_tables.specs.declared.limits.TheConstants.{MAX_COMMODITIES, MAX_CONTRACTS, MAX_TIERS}
use Rattle.span_tables.specs.declared.limits.TheConstants.{MAX_INTRA_SPREADS, MAX_SPOT_MONTHS, MAX_INTER_SPREADS}
use Rattle.span_csv.specs.declared.grammar.FieldForm.{FieldForm}
use Rattle.span_csv.specs.declared.grammar.Kind.{Kind}
use Rattle.span_csv.specs.declared.grammar.Kind.TheVariants as kind

-- the record is a SET
abbrev pub is_set : Fields → Bool
is_set r = is_word (codes "SET") (text_at r 0)

-- the profile of a file that begins with these records; the fields of its contracts are judged by it. If the first
-- record is a SET whose third field is a version, the profile is that version, whatever other faults the record has.
-- Otherwise the profile is 1.
abbrev pub profile_of : List Fields → ℕ
profile_of [] = 1
profile_of (first ∷ rest) = if is_set first && is_in_range a_version (text_at first 2) then count_at first 2 else 1

-- some field after the first fails the test of its form under a profile
abbrev pub some_fail : (FieldForm → List ℕ → Bool) → ℕ → Fields → Bool
some_fail test profile r = option_map_or (λ forms. not (all_have test forms (drop 1 r))) (layout_of profile r) false

-- the faults P1 to P7 that a record may have after the earlier records, in the order of their numbers
abbrev pub form_faults : List Fields → Fields → List (Bool × (ℕ → ParamFault))
form_faults earlier r =
    ((length earlier == 0) && not (is_set r), fault.NoSet)
    ∷ (not (length earlier == 0) && is_set r, fault.SecondSet)
    ∷ (is_none (kind_of r), fault.UnknownKind)
    ∷ (is_none (layout_of (profile_of earlier) r), fault.FieldCount)
    ∷ (some_fail has_word_form (profile_of earlier) r, fault.BadName)
    ∷ (some_fail has_number_form (profile_of earlier) r, fault.BadNumber)
    ∷ (some_fail is_in_range (profile_of earlier) r, fault.OutOfRange)
    ∷ []

-- the record has none of P1 to P7
abbrev pub is_formed : List Fields → Fields → Bool
is_formed earlier r = is_none (first_that_holds (form_faults earlier r))

-- ---- limits

-- the records after earlier ones, without the records that have one of P1 to P7
abbrev pub formed_behind : List Fields → List Fields → List Fields
formed_behind earlier [] = []
formed_behind earlier (r ∷ rest) =
    if is_formed earlier r then r ∷ formed_behind (earlier ++ r ∷ []) rest else formed_behind (earlier ++ r ∷ []) rest

-- the records that the limits of a file count: the records without one of P1 to P7
abbrev pub counted : List Fields → List Fields
counted rs = formed_behind [] rs

-- the number of records with the same first field
abbrev pub count_of_kind : List Fields → Fields → ℕ
count_of_kind rs r = count_by (λ x. bytes_eq (text_at x 0) (text_at r 0)) rs

-- the number of records with the same first two fields
abbrev pub count_of_commodity : List Fields → Fields → ℕ
count_of_commodity rs r = count_by (λ x. bytes_eq (text_at x 0) (text_at r 0) && bytes_eq (text_at x 1) (text_at r 1)) rs

-- the record exceeds its limit by one after these counted records; a limit is per kind, or per kind and commodity
abbrev pub exceeds_limit : List Fields → Fields → Option Kind → Bool
exceeds_limit rs r None = false
exceeds_limit rs r (Some kind.Set) = false
exceeds_limit rs r (Some kind.Commodity) = count_of_kind rs r == MAX_COMMODITIES
exceeds_limit rs r (Some kind.Contract) = count_of_kind rs r == MAX_CONTRACTS
exceeds_limit rs r (Some kind.Tier) = count_of_commodity rs r == MAX_TIERS
exceeds_limit rs r (Some kind.Intra) = count_of_commodity rs r == MAX_INTRA_SPREADS
exceeds_limit rs r (Some kind.Spot) = count_of_commodity rs r == MAX_SPOT_MONTHS
exceeds_limit rs r (Some kind.Inter) = count_of_kind rs r == MAX_INTER_SPREADS

-- ---- faults

-- the faults that a record may have after the earlier records, in the order of their numbers
abbrev pub record_faults : List Fields → Fields → List (Bool × (ℕ → ParamFault))
record_faults earlier r =
    form_faults earlier r ++ (exceeds_limit (counted earlier) r (kind_of r), fault.TooMany) ∷ []

-- the lowest-numbered fault of a record after the earlier records, as a function of the record's number
abbrev pub record_fault : List Fields → Fields → Option (ℕ → ParamFault)
record_fault earlier r = first_that_holds (record_faults earlier r)

-- the faults of a parameter file's records: the fault of each faulty record, or `NoSet` if there is no record
unfoldable pub faults_in : List Fields → List ParamFault
faults_in [] = fault.NoSet 0 ∷ []
faults_in (r ∷ rs) = all_faults record_fault (r ∷ rs)

-- all faults of a parameter file
unfoldable pub param_faults : List ℕ → List ParamFault
param_faults bytes = faults_in (records_of bytes)

-- the records of a parameter file, or its first fault
unfoldable pub params_of : List ℕ → Result (List Record) ParamFault
params_of bytes = ok_unless (first_of (param_faults bytes)) (map param_record (records_of bytes))

-- the fault is out of memory, which the definitions of faults do not cover
abbrev pub is_memory : ParamFault → Bool
is_memory fault.OutOfMemory = true
is_memory _ = false
