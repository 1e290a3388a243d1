-- A parameter file read one record after another: the records in it, and all its faults.
use Rattle.std.proofs.Common.{◌≡◌, ◌∙◌, sym, ap, subst, refl, arith, ℕ, List, [], ◌∷◌, ◌++◌, length, map, Some, Ok, Err}
use Rattle.std.specs.Prelude.{⊤, MatchBool}
use Rattle.std.proofs.lemmas.List.{length-append, map-append}
use Rattle.span_tables.specs.Faults.{all_faults, faults_after, first_of, ok_unless}
use Rattle.span_tables.specs.declared.records.Record.{Record}
use Rattle.span_csv.specs.near.Checks.{NextIs, Tallies, params_in}
use Rattle.span_csv.specs.ParamFaults.{faults_in, param_faults, params_of, is_memory, record_fault}
use Rattle.span_csv.specs.Records.{Fields, records_of, param_record}
use Rattle.span_csv.specs.declared.faults.ParamFault.{ParamFault}
use Rattle.span_csv.specs.declared.faults.ParamFault.TheVariants as fault
use Rattle.span_csv.specs.declared.tally.Tally.{Tally}
use Rattle.span_csv.proofs.RecordLemmas.{told_by}
use Rattle.span_csv.proofs.ToldLemmas.{IsTold, told_all, told_next, told_one, told_room, told_whole}

-- ---- all faults

faults_of_some : (all : List Fields) → (length all ≡ 0 → ⊥) → faults_in all ≡ all_faults record_fault all
unfolding faults_in
faults_of_some [] some = absurd (some refl)
faults_of_some (r ∷ rs) some = refl

faults_of_none : (all : List Fields) → length all ≡ 0 → all_faults record_fault all ++ fault.NoSet 0 ∷ [] ≡ faults_in all
unfolding faults_in
faults_of_none [] none = refl
faults_of_none (r ∷ rs) none = absurd (omega (arith, none))

module _ {Kept : List Fields → Type 0} {all : List Fields} {faults : List ParamFault} {read : ℕ} {before : List Fields}
    (s : IsTold record_fault Kept all faults read before) (end : before ≡ []) where
  count : length all ≡ read
  count = ap length (told_whole s end) ∙ s.count

  -- all faults of a file with a record are reported
  pub told_records : (read ≡ 0 → ⊥) → faults ≡ faults_in all
  told_records some = told_all s end ∙ sym (faults_of_some all (λ none. some (sym count ∙ none)))

  -- all faults of a file without a record are reported
  pub told_empty : read ≡ 0 → faults ++ fault.NoSet 0 ∷ [] ≡ faults_in all
  told_empty none = ap (λ fs. fs ++ fault.NoSet 0 ∷ []) (told_all s end) ∙ faults_of_none all (count ∙ none)

-- ---- the records of a file without a fault

-- these are the records of the file so far, and none has a fault
abbrev pub HasRead : List Record → Tally → List Fields → List Fields → Type 0
HasRead xs t all rest = IsTold record_fault (λ rs. (xs ≡ map param_record rs) × Tallies t rs) all [] (length xs) rest

module _ {all : List Fields} {xs : List Record} {t : Tally} {before : List Fields} (s : HasRead xs t all before) where
  by_faults : (faults : List ParamFault) → faults ≡ faults_in all → ok_unless (first_of faults) (map param_record all) ≡ params_in all
  by_faults faults are = ap (λ fs. ok_unless (first_of fs) (map param_record all)) are

  -- a record without a fault is read
  pub read_more : (r : Fields) (rest : List Fields) (x : Record) (u : Tally) → before ≡ r ∷ rest → x ≡ param_record r
      → NextIs s.earlier r (Ok x) u → HasRead (xs ++ x ∷ []) u all rest
  read_more r rest x u is says next =
      let said : xs ++ x ∷ [] ≡ map param_record (s.earlier ++ r ∷ []) =
      ap (λ zs. zs ++ x ∷ []) s.kept.0 ∙ ap (λ y. map param_record s.earlier ++ y ∷ []) says
      ∙ sym (map-append param_record s.earlier (r ∷ [])) in
      subst (λ n. IsTold record_fault (λ rs. (xs ++ x ∷ [] ≡ map param_record rs) × Tallies u rs) all [] n rest)
      (sym (length-append xs (x ∷ [])))
      (told_one s is_memory _ r rest (Ok x) [] is (next.0, (said, next.1)) refl)

  -- a record with a fault
  pub read_fault : (r : Fields) (rest : List Fields) (e : ParamFault) (u : Tally) → before ≡ r ∷ rest
      → NextIs s.earlier r (Err e) u → MatchBool (is_memory e) ⊤ (params_in all ≡ Err e)
  read_fault r rest e u is next =
      let some : length all ≡ 0 → ⊥ = λ none. let more = told_room s r rest is in absurd (omega (arith, none, more)) in
      told_by (is_memory e) next (λ found.
      let more = told_next s (λ _. ⊤) r rest (Some e) is found.0 tt in
      sym (by_faults (e ∷ faults_after record_fault more.earlier rest) (more.told ∙ sym (faults_of_some all some))))

  -- a file without a record
  pub read_empty : before ≡ [] → length xs ≡ 0 → params_in all ≡ Err (fault.NoSet 0)
  read_empty end none = sym (by_faults (fault.NoSet 0 ∷ []) (told_empty s end none))

  -- all records of a file
  pub read_all : before ≡ [] → (length xs ≡ 0 → ⊥) → params_in all ≡ Ok xs
  read_all end some =
      sym (by_faults [] (told_records s end some)) ∙ ap Ok (ap (map param_record) (told_whole s end) ∙ sym s.kept.0)

-- the result for a parameter file's bytes is the result for its rows
pub params_read : (bytes : List ℕ) → params_of bytes ≡ params_in (records_of bytes)
unfolding params_of param_faults
params_read bytes = refl
