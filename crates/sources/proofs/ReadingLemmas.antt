-- Reads that follow each other.
use Rattle.std.proofs.Common.{◌≡◌, ◌∙◌, ◌⊎◌, ◌+◌, ℕ, Bool, true, false, List, [], ◌∷◌, ◌++◌, Ok, Err, refl, sym, subst, inl, inr}
use Rattle.std.proofs.Common.{arith, length-append}
use Rattle.std.proofs.Math.Logic.{∥∥₁_map}
use Rattle.std.proofs.lemmas.List.Elements.{All-push}
use Rattle.std.specs.IoError.{error_kind}
use Rattle.std.specs.Prelude.{All, MatchBool, ◌≢◌}
use Rattle.std.specs.declared.io.Error.{Error}
use Rattle.std.specs.declared.io.ErrorKind.TheVariants.{Interrupted}
use Rattle.sources.specs.Readings.{HasFailed, IsFailure, IsInterrupted, IsLast, LastFailed, MakesReads, ReadResult, Reading}
use Rattle.sources.specs.Readings.{Reads, Returns, Tells}

-- so far, all reads were interrupted, or the last one failed
abbrev pub Went : {R : Type 0} → Reading R → Reading R → List ReadResult → Type 0
Went old now results =
    (All IsInterrupted results × (now.failed ≡ old.failed) × (old.failed ≡ true → results ≡ []))
    ⊎ ((now.failed ≡ true) × ((e : Error) × IsFailure (Err e) × IsLast IsInterrupted (Err e) results))

module _ {R : Type 0} (reads : R → ReadResult → R → Type 0) where
  -- reads were made between two states, and reading has not returned yet
  pub record ReadsOn (old now : Reading R) : Type 0 where
    pub results : List ReadResult
    pub made : MakesReads reads old results now
    pub went : Went old now results

  -- no read was made
  pub none_read : (s : Reading R) → ReadsOn s s
  none_read s = record {
    results = [];
    made = record { each = refl; counted = omega arith };
    went = inl ((λ k d within. absurd (omega arith)), refl, λ is. refl);
  }

  reads_then : (old now new : R) (results more : List ReadResult) → Reads reads old results now → Reads reads now more new
      → Reads reads old (results ++ more) new
  reads_then old now new [] more is after = subst (λ (x : R). Reads reads x more new) is after
  reads_then old now new (result ∷ results) more (next, first, rest) after =
      (next, first, reads_then next now new results more rest after)

  -- more reads were made
  pub made_then : (old now new : Reading R) (results more : List ReadResult) → MakesReads reads old results now
      → MakesReads reads now more new → MakesReads reads old (results ++ more) new
  made_then old now new results more made after = record {
    each = reads_then old.input now.input new.input results more made.each after.each;
    counted = omega (arith, made.counted, after.counted, length-append results more);
  }

  -- one read was made
  made_once : (now new : Reading R) (last : ReadResult) → reads now.input last new.input → new.left + 1 ≡ now.left
      → MakesReads reads now (last ∷ []) new
  made_once now new last read count = record { each = (new.input, read, refl); counted = count }

  module _ (old now new : Reading R) (on : ReadsOn old now) (fresh : now.failed ≡ false) (count : new.left + 1 ≡ now.left) where
    went_then : (e : Error) (failed : Bool) → new.failed ≡ failed
        → MatchBool failed (error_kind e ≢ Interrupted) (error_kind e ≡ Interrupted) → Went old now on.results
        → Went old new (on.results ++ Err e ∷ [])
    went_then e true is tells (inl (all, same, none)) =
        inr (is, (e, tells, record { before = on.results; all = all; is = refl }))
    went_then e false is tells (inl (all, same, none)) =
        inl (All-push IsInterrupted on.results (Err e) all tells, is ∙ sym fresh ∙ same, λ was. (let h = sym was ∙ sym same ∙ fresh in cc))
    went_then e failed is tells (inr (broken, last)) = (let h = sym broken ∙ fresh in cc)

    -- a read returned an error
    pub read_error : (e : Error) → reads now.input (Err e) new.input → Tells new.failed (Err e) → ReadsOn old new
    read_error e more tells = record {
      results = on.results ++ Err e ∷ [];
      made = made_then old now new on.results (Err e ∷ []) on.made (made_once now new (Err e) more count);
      went = went_then e new.failed refl tells on.went;
    }

    last_read : (n : ℕ) → Went old now on.results → IsLast IsInterrupted (Ok n) (on.results ++ Ok n ∷ [])
    last_read n (inl (all, same, none)) = record { before = on.results; all = all; is = refl }
    last_read n (inr (broken, last)) = (let h = sym broken ∙ fresh in cc)

    -- a read returned bytes
    pub read_bytes : (n : ℕ) → reads now.input (Ok n) new.input
        → (results : List ReadResult) × MakesReads reads old results new × Returns old results new (Ok n)
    read_bytes n more = (
      on.results ++ Ok n ∷ [],
      made_then old now new on.results (Ok n ∷ []) on.made (made_once now new (Ok n) more count),
      last_read n on.went,
    )

  -- a reader whose last read failed has failed
  pub failed_last : (input : R) (now : Reading R) → ∥ LastFailed reads input ∥₁ → input ≡ now.input → now.failed ≡ true
      → HasFailed reads now
  failed_last input now last same is = (
    (λ fresh. (let h = sym is ∙ fresh in cc)),
    subst (λ (x : R). ∥ LastFailed reads x ⊎ (now.left ≡ 0) ∥₁) same (∥∥₁_map last (λ h. inl h)),
  )

  marked : (old new : R) (r : ReadResult) (failed : Bool) → reads old r new → Tells failed r → failed ≡ true → ∥ LastFailed reads new ∥₁
  marked old new (Ok n) failed read tells is = (let h = sym tells ∙ is in cc)
  marked old new (Err e) true read tells is = ∣ (old, Err e, read, tells) ∣₁
  marked old new (Err e) false read tells is = cc

  -- the mark of a read that failed
  pub marks : (old new input : R) (r : ReadResult) (failed : Bool) → reads old r new → input ≡ new → Tells failed r → failed ≡ true
      → ∥ LastFailed reads input ∥₁
  marks old new input r failed read same tells is =
      subst (λ (x : R). ∥ LastFailed reads x ∥₁) (sym same) (marked old new r failed read tells is)
