-- The faults of a parameter record part by part, the counts that its limits refer to, and the profile that determines
-- its forms.
use Rattle.std.specs.Prelude.{◌≡◌, ℕ, ◌+◌, Bool, not, ◌&&◌, if◌then◌else◌, List, [], ◌∷◌}
use Rattle.std.specs.Prelude.{length, map, count_by, Some, None, option_map, is_none, unwrap_or, codes, bytes_eq, Result}
use Rattle.std.specs.HashMap.{HashMap, get}
use Rattle.span_tables.specs.Faults.{first_of, first_that_holds, ok_unless}
use Rattle.span_tables.specs.declared.records.Record.{Record}
use Rattle.span_tables.specs.declared.records.Record.TheVariants as record_of
use Rattle.span_tables.specs.declared.limits.TheConstants.{MAX_COMMODITIES, MAX_CONTRACTS, MAX_TIERS}
use Rattle.span_tables.specs.declared.limits.TheConstants.{MAX_INTRA_SPREADS, MAX_SPOT_MONTHS, MAX_INTER_SPREADS}
use Rattle.span_csv.specs.Records.{Fields}
use Rattle.span_csv.specs.Records.{kind_of, layout_of, text_at, has_word_form, has_number_form, is_in_range, param_record, record_of_kind}
use Rattle.span_csv.specs.ParamFaults.{counted, faults_in, is_set, profile_of, some_fail, record_fault, is_memory}
use Rattle.span_csv.specs.near.Telling.{Judges}
use Rattle.span_csv.specs.declared.faults.ParamFault.{ParamFault}
use Rattle.span_csv.specs.declared.faults.ParamFault.TheVariants as fault
use Rattle.span_csv.specs.declared.tally.Tally.{Tally}
use Rattle.span_csv.specs.declared.grammar.Kind.{Kind}

-- the faults of a record's kind, for the first record of a file and for a later one
abbrev pub kind_faults : Bool → Fields → List (Bool × (ℕ → ParamFault))
kind_faults first r =
    (first && not (is_set r), fault.NoSet) ∷ (not first && is_set r, fault.SecondSet) ∷ (is_none (kind_of r), fault.UnknownKind) ∷ []

-- the faults of a record's fields under a profile
abbrev pub field_faults : ℕ → Fields → List (Bool × (ℕ → ParamFault))
field_faults profile r =
    (is_none (layout_of profile r), fault.FieldCount) ∷ (some_fail has_word_form profile r, fault.BadName)
    ∷ (some_fail has_number_form profile r, fault.BadNumber)
    ∷ (some_fail is_in_range profile r, fault.OutOfRange) ∷ []

-- the answer is the first of these faults that is present, with the record's number
abbrev pub IsFaultOf : List (Bool × (ℕ → ParamFault)) → ℕ → ParamFault → Type 0
IsFaultOf faults at answer = option_map (λ f. f at) (first_that_holds faults) ≡ Some answer

-- no fault is present
abbrev pub IsFree : List (Bool × (ℕ → ParamFault)) → Type 0
IsFree faults = first_that_holds faults ≡ None

-- the record is the value of the fields for their kind
abbrev pub IsOfKind : Fields → Record → Type 0
IsOfKind r x = (kind : Kind) × (kind_of r ≡ Some kind) × (x ≡ record_of_kind kind r)

-- ---- counts

-- the maximum number of records of a record's kind, or of its kind and commodity
abbrev pub limit_of : Record → ℕ
limit_of (record_of.Set x) = 1
limit_of (record_of.Commodity x) = MAX_COMMODITIES
limit_of (record_of.Contract x) = MAX_CONTRACTS
limit_of (record_of.Tier x) = MAX_TIERS
limit_of (record_of.Intra x) = MAX_INTRA_SPREADS
limit_of (record_of.Spot x) = MAX_SPOT_MONTHS
limit_of (record_of.Inter x) = MAX_INTER_SPREADS

-- the number of records that begin with a word
abbrev pub count_word : List ℕ → List Fields → ℕ
count_word word rs = count_by (λ x. bytes_eq (text_at x 0) word) rs

-- the number of records that begin with a word and a commodity
abbrev pub count_words : List ℕ → List ℕ → List Fields → ℕ
count_words word cc rs = count_by (λ x. bytes_eq (text_at x 0) word && bytes_eq (text_at x 1) cc) rs

-- the count that a map has for a commodity
abbrev pub count_in : {S : Type 0} → HashMap (List ℕ) ℕ S → List ℕ → ℕ
count_in counts cc = unwrap_or (get bytes_eq counts cc) 0

-- the count of a commodity grows by one, and all other counts are unchanged
abbrev pub CountsOne : {S : Type 0} → HashMap (List ℕ) ℕ S → List ℕ → HashMap (List ℕ) ℕ S → Type 0
CountsOne old cc new = (q : List ℕ) → count_in new q ≡ count_in old q + (if bytes_eq cc q then 1 else 0)

-- the count that the limit of a record refers to
abbrev pub count_for : Tally → Record → ℕ
count_for t (record_of.Set x) = 0
count_for t (record_of.Commodity x) = t.commodities
count_for t (record_of.Contract x) = t.contracts
count_for t (record_of.Tier x) = count_in t.tiers x.commodity
count_for t (record_of.Intra x) = count_in t.intras x.commodity
count_for t (record_of.Spot x) = count_in t.spots x.commodity
count_for t (record_of.Inter x) = t.inters

-- the first record of a file sets its profile, and later records keep it
abbrev pub KeepsProfile : Bool → Fields → Tally → Tally → Type 0
KeepsProfile first r old new = new ≡ record old { profile = if first then profile_of (r ∷ []) else old.profile }

-- a record is counted if its kind has a limit
abbrev pub AddsRecord : Record → Tally → Tally → Type 0
AddsRecord (record_of.Set x) old new = new ≡ old
AddsRecord (record_of.Commodity x) old new = new ≡ record old { commodities = old.commodities + 1 }
AddsRecord (record_of.Contract x) old new = new ≡ record old { contracts = old.contracts + 1 }
AddsRecord (record_of.Tier x) old new = CountsOne old.tiers x.commodity new.tiers × (new ≡ record old { tiers = new.tiers })
AddsRecord (record_of.Intra x) old new = CountsOne old.intras x.commodity new.intras × (new ≡ record old { intras = new.intras })
AddsRecord (record_of.Spot x) old new = CountsOne old.spots x.commodity new.spots × (new ≡ record old { spots = new.spots })
AddsRecord (record_of.Inter x) old new = new ≡ record old { inters = old.inters + 1 }

-- the counts of the tally are the counts of these records
pub record Counts (t : Tally) (rs : List Fields) : Type 0 where
  pub commodities : t.commodities ≡ count_word (codes "COMMODITY") rs
  pub contracts : t.contracts ≡ count_word (codes "CONTRACT") rs
  pub tiers : (cc : List ℕ) → count_in t.tiers cc ≡ count_words (codes "TIER") cc rs
  pub intras : (cc : List ℕ) → count_in t.intras cc ≡ count_words (codes "INTRA") cc rs
  pub spots : (cc : List ℕ) → count_in t.spots cc ≡ count_words (codes "SPOT") cc rs
  pub inters : t.inters ≡ count_word (codes "INTER") rs

-- the tally has the profile of these records' file and the counts of those without one of P1 to P7
pub record Tallies (t : Tally) (rs : List Fields) : Type 0 where
  pub profile : t.profile ≡ profile_of rs
  pub counts : Counts t (counted rs)

-- ---- one record after others

-- the tally covers this many records
abbrev pub HasTallied : Tally → ℕ → Type 0
HasTallied t n = (earlier : List Fields) × (length earlier ≡ n) × Tallies t earlier

-- the answer for a record after earlier records, and the tally afterwards
abbrev pub NextIs : List Fields → Fields → Result Record ParamFault → Tally → Type 0
NextIs earlier r answer t = Judges is_memory record_fault (Tallies t) earlier r answer

-- ---- all records

-- the records of a parameter file with these rows, or its first fault
abbrev pub params_in : List Fields → Result (List Record) ParamFault
params_in rows = ok_unless (first_of (faults_in rows)) (map param_record rows)
