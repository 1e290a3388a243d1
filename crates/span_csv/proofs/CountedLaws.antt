-- The records of a position file that its limit counts: after one more record, and if no record has a fault.
use Rattle.std.proofs.Common.{◌≡◌, ◌∙◌, sym, ap, subst, ℕ, Bool, true, false, cond, List, [], ◌∷◌, ◌++◌, Option, None, append_assoc}
use Rattle.std.specs.Prelude.{is_none}
use Rattle.std.proofs.lemmas.List.{append-nil}
use Rattle.std.proofs.lemmas.List.Elements.{filter-append}
use Rattle.span_tables.specs.Faults.{first_that_holds}
use Rattle.span_tables.specs.Laws.{IsFaultFree}
use Rattle.span_csv.specs.Records.{Fields}
use Rattle.span_csv.specs.PositionFaults.{counted, exceeds_accounts, form_faults, is_formed, record_fault}
use Rattle.span_csv.specs.declared.faults.PositionFault.{PositionFault}
use Rattle.span_csv.specs.declared.faults.PositionFault.TheVariants as fault
use Rattle.span_csv.proofs.CheckLemmas.{front_none}

-- a record with one of Q1 to Q4 is not counted
pub push_unformed : (rs : List Fields) (r : Fields) → is_formed r ≡ false → counted (rs ++ r ∷ []) ≡ counted rs
push_unformed rs r e =
    filter-append is_formed rs (r ∷ []) ∙ ap (λ (b : Bool). counted rs ++ cond b (r ∷ []) []) e ∙ append-nil (counted rs)

-- a record with none of Q1 to Q4 is counted
pub push_formed : (rs : List Fields) (r : Fields) → is_formed r ≡ true → counted (rs ++ r ∷ []) ≡ counted rs ++ r ∷ []
push_formed rs r e = filter-append is_formed rs (r ∷ []) ∙ ap (λ (b : Bool). counted rs ++ cond b (r ∷ []) []) e

-- the fault of a record if all earlier records are counted
abbrev pub fault_where_all_count : List Fields → Fields → Option (ℕ → PositionFault)
fault_where_all_count earlier r = first_that_holds (form_faults r ++ (exceeds_accounts earlier r, fault.TooManyAccounts) ∷ [])

-- a record without a fault is counted
pub free_formed : (earlier : List Fields) (r : Fields) → fault_where_all_count earlier r ≡ None → is_formed r ≡ true
free_formed earlier r e = ap is_none (front_none (form_faults r) ((exceeds_accounts earlier r, fault.TooManyAccounts) ∷ []) e)

pub all_count : (earlier : List Fields) (r : Fields) → counted earlier ≡ earlier → is_formed r ≡ true
    → counted (earlier ++ r ∷ []) ≡ earlier ++ r ∷ []
all_count earlier r all formed = push_formed earlier r formed ∙ ap (λ zs. zs ++ r ∷ []) all

-- if no record has a fault, all are counted
pub free_counted : (earlier rows : List Fields) → counted earlier ≡ earlier → IsFaultFree record_fault earlier rows
    → counted (earlier ++ rows) ≡ earlier ++ rows
free_counted earlier [] all free = subst (λ zs. counted zs ≡ zs) (sym (append-nil earlier)) all
free_counted earlier (r ∷ rows) all free =
    subst (λ zs. counted zs ≡ zs) (append_assoc earlier (r ∷ []) rows)
    (free_counted (earlier ++ r ∷ []) rows (all_count earlier r all (free_formed (counted earlier) r free.0)) free.1)

-- records without a fault have none by `fault_where_all_count` either
pub free_where_all_count : (earlier rows : List Fields) → counted earlier ≡ earlier → IsFaultFree record_fault earlier rows
    → IsFaultFree fault_where_all_count earlier rows
free_where_all_count earlier [] all free = tt
free_where_all_count earlier (r ∷ rows) all free = (
  subst (λ zs. fault_where_all_count zs r ≡ None) all free.0,
  free_where_all_count (earlier ++ r ∷ []) rows (all_count earlier r all (free_formed (counted earlier) r free.0)) free.1,
)

-- the converse
pub free_from_all_count : (earlier rows : List Fields) → counted earlier ≡ earlier → IsFaultFree fault_where_all_count earlier rows
    → IsFaultFree record_fault earlier rows
free_from_all_count earlier [] all free = tt
free_from_all_count earlier (r ∷ rows) all free = (
  subst (λ zs. fault_where_all_count zs r ≡ None) (sym all) free.0,
  free_from_all_count (earlier ++ r ∷ []) rows (all_count earlier r all (free_formed earlier r free.0)) free.1,
)
