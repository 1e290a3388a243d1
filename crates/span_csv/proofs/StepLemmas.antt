-- The faults and the value of one record after the records before it.
use Rattle.std.proofs.Common.{◌≡◌, ◌+◌, ◌∙◌, sym, ap, ap₂, ℕ, true, false, List, [], ◌∷◌, ◌++◌, length, None, Some}
use Rattle.std.specs.Prelude.{Bool, ⊤, ◌==◌, is_none, option_map, unwrap_or, MatchBool}
use Rattle.span_tables.specs.Faults.{first_that_holds}
use Rattle.span_tables.specs.declared.records.Record.{Record}
use Rattle.span_csv.specs.near.Checks.{IsFree, IsFaultOf, IsOfKind, kind_faults, field_faults}
use Rattle.span_csv.specs.ParamFaults.{counted, exceeds_limit, form_faults, is_formed, is_memory, profile_of, record_faults}
use Rattle.span_csv.specs.Records.{Fields, kind_of, record_of_kind, param_record}
use Rattle.span_csv.specs.declared.faults.ParamFault.{ParamFault}
use Rattle.span_csv.specs.declared.faults.ParamFault.TheVariants as fault
use Rattle.span_csv.proofs.CheckLemmas.{first_append, first_front}
use Rattle.span_csv.proofs.FormedLemmas.{unformed}
use Rattle.span_csv.proofs.RecordLemmas.{told}
use Rattle.span_csv.specs.declared.grammar.Kind.TheVariants as kind

-- a record after n others, under a profile
module _ (rs : List Fields) (r : Fields) (n profile : ℕ) (len : length rs ≡ n) (under : profile ≡ profile_of rs) where
  -- the faults of the record that do not depend on the limits
  abbrev alone : List (Bool × (ℕ → ParamFault))
  alone = kind_faults (n == 0) r ++ field_faults profile r

  -- the fault of the record's limit
  abbrev last : List (Bool × (ℕ → ParamFault))
  last = (exceeds_limit (counted rs) r (kind_of r), fault.TooMany) ∷ []

  forms_are : alone ≡ form_faults rs r
  forms_are = ap₂ (λ k p. kind_faults (k == 0) r ++ field_faults p r) (sym len) under

  module _ (answer : ParamFault) (e : IsFaultOf alone (n + 1) answer) where
    own : IsFaultOf (form_faults rs r) (length rs + 1) answer
    own = ap₂ (λ fs k. option_map (λ f. f (k + 1)) (first_that_holds fs)) (sym forms_are) len ∙ e

    -- a fault of the record by itself
    pub next_fault : (Kept : Type 0) → Kept
        → MatchBool (is_memory answer) ⊤ (IsFaultOf (record_faults rs r) (length rs + 1) answer × Kept)
    next_fault Kept kept = told (is_memory answer) (first_front (form_faults rs r) last (length rs + 1) answer own, kept)

    -- a record with a fault by itself is not counted
    pub next_unformed : is_formed rs r ≡ false
    next_unformed = unformed (first_that_holds (form_faults rs r)) (length rs + 1) answer own

  module _ (free : IsFree alone) where
    forms_free : first_that_holds (form_faults rs r) ≡ None
    forms_free = ap first_that_holds (sym forms_are) ∙ free

    by_last : (b : Bool) → exceeds_limit (counted rs) r (kind_of r) ≡ b
        → first_that_holds (record_faults rs r) ≡ first_that_holds ((b, fault.TooMany) ∷ [])
    by_last b is = first_append (form_faults rs r) last forms_free ∙ ap (λ b. first_that_holds ((b, fault.TooMany) ∷ [])) is

    -- one record too many
    pub next_too_many : exceeds_limit (counted rs) r (kind_of r) ≡ true
        → IsFaultOf (record_faults rs r) (length rs + 1) (fault.TooMany (n + 1))
    next_too_many exceeds =
        ap (option_map (λ f. f (length rs + 1))) (by_last true exceeds) ∙ ap (λ k. Some (fault.TooMany (k + 1))) len

    -- no fault
    pub next_free : exceeds_limit (counted rs) r (kind_of r) ≡ false → first_that_holds (record_faults rs r) ≡ None
    next_free within = by_last false within

    -- a record without a fault by itself is counted
    pub next_formed : is_formed rs r ≡ true
    next_formed = ap is_none forms_free

-- the value of a record
pub record_of : (r : Fields) (x : Record) → IsOfKind r x → x ≡ param_record r
unfolding param_record
record_of r x of = of.2 ∙ ap (λ o. record_of_kind (unwrap_or o kind.Set) r) (sym of.1)
