-- Records read one after another give the result of a definition for the whole file, if the result for each record
-- agrees with the definition.
use Rattle.std.proofs.Common.{◌≡◌, ◌∙◌, refl, sym, ap, subst, ℕ, ◌+◌, Bool, true, false}
use Rattle.std.proofs.Common.{List, [], ◌∷◌, ◌++◌, length, map, Option, Some, None, Result, Ok, Err, append_assoc}
use Rattle.std.specs.Prelude.{option_map, MatchBool, ⊤}
use Rattle.std.proofs.lemmas.List.{append-nil, map-append}
use Rattle.span_tables.specs.Faults.{first_fault, first_fault_after, ok_unless}
use Rattle.span_tables.specs.Gives.{Gives}
use Rattle.span_tables.specs.Laws.{IsFaultFree}
use Rattle.span_csv.specs.Records.{Fields}
use Rattle.span_csv.specs.near.RecordReading.{records_after}

-- ---- the answer

-- a fact about a fault that is reported
pub told : {X : Type 0} (memory : Bool) → X → MatchBool memory ⊤ X
told true x = tt
told false x = x

-- a consequence of a fact about a fault that is reported
pub told_by : {X Y : Type 0} (memory : Bool) → MatchBool memory ⊤ X → (X → Y) → MatchBool memory ⊤ Y
told_by true x follows = tt
told_by false x follows = follows x

-- ---- one record

module _ {R F : Type 0} (next : List R → Fields → Result R F) where
  pub records_after-ok : (earlier : List R) (r : Fields) (rest : List Fields) (x : R)
      → next earlier r ≡ Ok x → records_after next earlier (r ∷ rest) ≡ records_after next (earlier ++ x ∷ []) rest
  unfolding records_after
  records_after-ok earlier r rest x e = rw e refl

  pub records_after-err : (earlier : List R) (r : Fields) (rest : List Fields) (e : F)
      → next earlier r ≡ Err e → records_after next earlier (r ∷ rest) ≡ Err e
  unfolding records_after
  records_after-err earlier r rest f e = rw e refl

  pub records_after-end : (earlier : List R) → records_after next earlier [] ≡ Ok earlier
  unfolding records_after
  records_after-end earlier = refl

  -- a record with a fault ends the reading
  pub records_after-refused : (is_memory : F → Bool) (earlier : List R) (r : Fields) (rest : List Fields) (e : F)
      → Gives {V = R} is_memory (Err e) (next earlier r)
      → Gives {V = List R} is_memory (Err e) (records_after next earlier (r ∷ rest))
  records_after-refused is_memory earlier r rest e h = told_by (is_memory e) h (records_after-err earlier r rest e)

-- ---- all records

-- a record without a fault, appended to records without one
pub free_push : {F : Type 0} (fault_of : List Fields → Fields → Option (ℕ → F)) (before rows : List Fields) (r : Fields)
    → IsFaultFree fault_of before rows → fault_of (before ++ rows) r ≡ None → IsFaultFree fault_of before (rows ++ r ∷ [])
free_push fault_of before [] r free here = (subst (λ rs. fault_of rs r ≡ None) (append-nil before) here, tt)
free_push fault_of before (x ∷ rows) r free here = (
  free.0,
  free_push fault_of (before ++ x ∷ []) rows r free.1
      (subst (λ rs. fault_of rs r ≡ None) (sym (append_assoc before (x ∷ []) rows)) here),
)

module _ {R F : Type 0} (next : List R → Fields → Result R F) (fault_of : List Fields → Fields → Option (ℕ → F))
    (what : Fields → R)
    (judges : (before : List Fields) (r : Fields) → IsFaultFree fault_of [] before → next (map what before) r
    ≡ ok_unless (option_map (λ f. f (length before + 1)) (fault_of before r)) (what r)) where
  -- the result of the definition for the records from here on
  abbrev all_judged : List Fields → List Fields → Result (List R) F
  all_judged before rows = ok_unless (first_fault_after fault_of before rows) (map what (before ++ rows))

  by_outcome : (before : List Fields) (r : Fields) (rest : List Fields) (o : Option (ℕ → F)) → fault_of before r ≡ o
      → IsFaultFree fault_of [] before
      → (IsFaultFree fault_of [] (before ++ r ∷ [])
      → records_after next (map what (before ++ r ∷ [])) rest ≡ all_judged (before ++ r ∷ []) rest)
      → records_after next (map what before) (r ∷ rest) ≡ all_judged before (r ∷ rest)
  by_outcome before r rest None is free later =
      records_after-ok next (map what before) r rest (what r)
      (judges before r free ∙ ap (λ o. ok_unless (option_map (λ f. f (length before + 1)) o) (what r)) is)
      ∙ sym (ap (λ earlier. records_after next earlier rest) (map-append what before (r ∷ [])))
      ∙ later (free_push fault_of [] before r free is)
      ∙ rw (is, append_assoc before (r ∷ []) rest) refl
  by_outcome before r rest (Some f) is free later =
      records_after-err next (map what before) r rest (f (length before + 1))
      (judges before r free ∙ ap (λ o. ok_unless (option_map (λ f. f (length before + 1)) o) (what r)) is)
      ∙ rw is refl

  reads_on : (before rows : List Fields) → IsFaultFree fault_of [] before
      → records_after next (map what before) rows ≡ all_judged before rows
  reads_on before [] free =
      records_after-end next (map what before) ∙ ap (λ rows. Ok (map what rows)) (sym (append-nil before))
  reads_on before (r ∷ rows) free = by_outcome before r rows (fault_of before r) refl free (reads_on (before ++ r ∷ []) rows)

  -- reading from the first record on gives the result of the definition
  pub records_after-judged : (rows : List Fields) → records_after next [] rows ≡ ok_unless (first_fault fault_of rows) (map what rows)
  records_after-judged rows = reads_on [] rows tt
