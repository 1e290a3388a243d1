-- The faults of all records of a file, reported one record after another.
use Rattle.std.proofs.Common.{◌≡◌, ◌∙◌, sym, ap, subst, arith, ℕ, ◌+◌, ◌<◌, List, [], ◌∷◌, ◌++◌, length, Option, Some, None}
use Rattle.std.proofs.Common.{Bool, Result, Ok, Err}
use Rattle.std.specs.Prelude.{option_map}
use Rattle.std.specs.Option.{option_to_list}
use Rattle.std.proofs.lemmas.List.{append_assoc, append-nil, length-append}
use Rattle.span_tables.specs.Faults.{all_faults, faults_after}
use Rattle.span_csv.specs.Records.{Fields}
use Rattle.span_csv.specs.near.Telling.{Judges, Tells}

-- This many records were read, these are their faults, and `Kept` is true of them.
pub record IsTold {F : Type 0} (fault_of : List Fields → Fields → Option (ℕ → F)) (Kept : List Fields → Type 0) (all : List Fields)
    (faults : List F) (read : ℕ) (rest : List Fields) : Type 0 where
  pub earlier : List Fields
  pub whole : earlier ++ rest ≡ all
  pub count : length earlier ≡ read
  pub kept : Kept earlier
  pub told : faults ++ faults_after fault_of earlier rest ≡ all_faults fault_of all

module _ {F : Type 0} {fault_of : List Fields → Fields → Option (ℕ → F)} {Kept : List Fields → Type 0} {all : List Fields}
    {faults : List F} {read : ℕ} {before : List Fields} (s : IsTold fault_of Kept all faults read before) where
  -- if a record is left, fewer were read than there are
  pub told_room : (r : Fields) (rest : List Fields) → before ≡ r ∷ rest → read < length all
  told_room r rest is =
      let long = length-append s.earlier (r ∷ rest) in
      let whole : length (s.earlier ++ r ∷ rest) ≡ length all = ap (λ zs. length (s.earlier ++ zs)) (sym is) ∙ ap length s.whole in
      omega (arith, long, whole, s.count)

  -- one more record, which has this fault or none
  pub told_next : (Then : List Fields → Type 0) (r : Fields) (rest : List Fields) (own : Option F) → before ≡ r ∷ rest
      → option_map (λ f. f (length s.earlier + 1)) (fault_of s.earlier r) ≡ own → Then (s.earlier ++ r ∷ [])
      → IsTold fault_of Then all (faults ++ option_to_list own) (read + 1) rest
  told_next Then r rest own is has kept = record {
    earlier = s.earlier ++ r ∷ [];
    whole = append_assoc s.earlier (r ∷ []) rest ∙ ap (λ zs. s.earlier ++ zs) (sym is) ∙ s.whole;
    count = length-append s.earlier (r ∷ []) ∙ ap (λ n. n + 1) s.count;
    kept = kept;
    told =
        append_assoc faults (option_to_list own) (faults_after fault_of (s.earlier ++ r ∷ []) rest)
        ∙ ap (λ o. faults ++ (option_to_list o ++ faults_after fault_of (s.earlier ++ r ∷ []) rest)) (sym has)
        ∙ ap (λ zs. faults ++ faults_after fault_of s.earlier zs) (sym is)
        ∙ s.told;
  }

  -- one more record with this answer
  pub told_one : {X : Type 0} (is_memory : F → Bool) (Then : List Fields → Type 0) (r : Fields) (rest : List Fields) (answer : Result X F)
      (new : List F) → before ≡ r ∷ rest → Judges is_memory fault_of Then s.earlier r answer → Tells is_memory answer faults new
      → IsTold fault_of Then all new (read + 1) rest
  told_one is_memory Then r rest (Ok _) new is judged tells =
      subst (λ fs. IsTold fault_of Then all fs (read + 1) rest) (append-nil faults ∙ sym tells)
      (told_next Then r rest None is (ap (option_map (λ f. f (length s.earlier + 1))) judged.0) judged.1)
  told_one is_memory Then r rest (Err e) new is judged tells =
      let found = rw tells.0 at judged in
      subst (λ fs. IsTold fault_of Then all fs (read + 1) rest) (sym tells.1) (told_next Then r rest (Some e) is found.0 found.1)

  -- if no record is left, all faults are reported
  pub told_all : before ≡ [] → faults ≡ all_faults fault_of all
  told_all end =
      sym (append-nil faults) ∙ ap (λ zs. faults ++ faults_after fault_of s.earlier zs) (sym end) ∙ s.told

  -- if no record is left, all records were read
  pub told_whole : before ≡ [] → all ≡ s.earlier
  told_whole end = sym s.whole ∙ ap (λ zs. s.earlier ++ zs) end ∙ append-nil s.earlier
