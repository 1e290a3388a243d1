-- The reads of a file, one after the other.
use Rattle.std.proofs.Common.{◌≡◌, ◌∙◌, ◌⊎◌, ◌+◌, ◌<◌, ◌≤◌, ℕ, true, false, List, [], ◌∷◌, ◌++◌, Result, Ok, Err}
use Rattle.std.proofs.Common.{append_assoc, ap, arith, inl, inr, length, refl, subst, sym, zero-add}
use Rattle.std.proofs.lemmas.List.Elements.{All-append, All-head, All-push, All-tail, All-weaker}
use Rattle.std.specs.Prelude.{All}
use Rattle.std.specs.declared.io.Error.{Error}
use Rattle.sources.specs.Readings.{IsFailure, IsInterrupted, IsLast, MakesReads, ReadResult, Reading, Reads, Returns}
use Rattle.sources.specs.declared.ReadFault.{ReadFault}
use Rattle.sources.specs.declared.ReadFault.TheVariants as fault
use Rattle.sources.specs.declared.TheConstants.{FILE_CAP}
use Rattle.sources.proofs.ReadingLemmas.{made_then}
use Rattle.span_cli.specs.FileReads.{EndsReading, GoesOn, ReadsFile, bytes_read}

bytes_read-append : (xs ys : List ReadResult) → bytes_read (xs ++ ys) ≡ bytes_read xs + bytes_read ys
bytes_read-append [] ys = sym (zero-add (bytes_read ys))
bytes_read-append (Ok n ∷ xs) ys = omega (arith, bytes_read-append xs ys)
bytes_read-append (Err e ∷ xs) ys = bytes_read-append xs ys

-- interrupted reads return no bytes, and reading goes on after them
none_read : (results : List ReadResult) → All IsInterrupted results → bytes_read results ≡ 0
none_read [] all = refl
none_read (Ok n ∷ results) all = absurd (All-head IsInterrupted (Ok n) results all)
none_read (Err e ∷ results) all = none_read results (All-tail IsInterrupted (Err e) results all)

interrupted_on : (result : ReadResult) → IsInterrupted result → GoesOn result
interrupted_on (Ok n) is = absurd is
interrupted_on (Err e) is = is

all_on : (results : List ReadResult) → All IsInterrupted results → All GoesOn results
all_on results all = All-weaker IsInterrupted GoesOn interrupted_on results all

-- reads after others, and a last one
last_of : (last : ReadResult) (results more : List ReadResult) → All GoesOn results → IsLast IsInterrupted last more
    → IsLast GoesOn last (results ++ more)
last_of last results more on is = record {
  before = results ++ is.before;
  all = All-append GoesOn results is.before on (all_on is.before is.all);
  is = ap (λ rest. results ++ rest) is.is ∙ sym (append_assoc results is.before (last ∷ []));
}

module _ {R : Type 0} (reads : R → ReadResult → R → Type 0) where
  -- so many bytes were read, and reading goes on
  pub record ReadsOn (old now : Reading R) (filled : ℕ) : Type 0 where
    pub results : List ReadResult
    pub made : MakesReads reads old results now
    pub on : All GoesOn results
    pub count : bytes_read results ≡ filled

  -- no read was made
  pub begun : (s : Reading R) → ReadsOn s s 0
  begun s = record {
    results = [];
    made = record { each = refl; counted = omega arith };
    on = λ k d within. absurd (omega arith);
    count = refl;
  }

  module _ (old now new : Reading R) (filled : ℕ) (on : ReadsOn old now filled) where
    -- more bytes were read
    pub reads_more : (n : ℕ) → 0 < n → ((more : List ReadResult) × MakesReads reads now more new × Returns now more new (Ok n))
        → ReadsOn old new (filled + n)
    reads_more n some (more, made, last) =
        let given : bytes_read more ≡ n =
        ap bytes_read last.is ∙ bytes_read-append last.before (Ok n ∷ []) ∙ omega (arith, none_read last.before last.all) in
        let goes : All GoesOn more =
        subst (λ (rs : List ReadResult). All GoesOn rs) (sym last.is)
        (All-push GoesOn last.before (Ok n) (all_on last.before last.all) some) in
        record {
          results = on.results ++ more;
          made = made_then reads old now new on.results more on.made made;
          on = All-append GoesOn on.results more on.on goes;
          count = bytes_read-append on.results more ∙ omega (arith, given, on.count);
        }

    -- the end was read
    pub reads_end : (n : ℕ) → n ≡ 0 → ((more : List ReadResult) × MakesReads reads now more new × Returns now more new (Ok n))
        → (results : List ReadResult) × MakesReads reads old results new × IsLast GoesOn (Ok 0) results
    reads_end n none (more, made, last) = (
      on.results ++ more,
      made_then reads old now new on.results more on.made made,
      subst (λ (x : ℕ). IsLast GoesOn (Ok x) (on.results ++ more)) none (last_of (Ok n) on.results more on.on last),
    )

    ends_so : (X : Type 0) (more : List ReadResult) (e : ReadFault) (limit : ℕ) → filled ≤ limit → now.failed ≡ old.failed
        → Returns now more new (Err e)
        → EndsReading limit ((new.left ≡ 0) ⊎ (old.failed ≡ true)) (on.results ++ more) (let r : Result X ReadFault = Err e in r)
    ends_so X more fault.Failed limit within same (is, inl (error, failure, last)) =
        inl (error, failure, last_of (Err error) on.results more on.on last)
    ends_so X more fault.Failed limit within same (is, inr (inl (all, out))) =
        let given = none_read more all in inr (
          All-append GoesOn on.results more on.on (all_on more all),
          omega (arith, bytes_read-append on.results more, given, on.count, within),
          inl out,
        )
    ends_so X more fault.Failed limit within same (is, inr (inr (failed, none))) = inr (
      subst (λ (rs : List ReadResult). All GoesOn (on.results ++ rs)) (sym none)
          (All-append GoesOn on.results [] on.on (λ k d within. absurd (omega arith))),
      omega (arith, bytes_read-append on.results more, ap bytes_read none, on.count, within),
      inr (sym same ∙ failed),
    )
    ends_so X more fault.TooLong limit within same (is, how) = cc
    ends_so X more fault.OutOfMemory limit within same (is, how) = tt

    -- reading failed
    pub reads_fail : {X : Type 0} (r : Result X ReadFault) (e : ReadFault) (limit : ℕ) → r ≡ Err e → filled ≤ limit
        → now.failed ≡ old.failed → ((more : List ReadResult) × MakesReads reads now more new × Returns now more new (Err e))
        → (results : List ReadResult) × MakesReads reads old results new
        × EndsReading limit ((new.left ≡ 0) ⊎ (old.failed ≡ true)) results r
    reads_fail {X} r e limit is within same (more, made, how) = (
      on.results ++ more,
      made_then reads old now new on.results more on.made made,
      subst (λ (x : Result X ReadFault). EndsReading limit ((new.left ≡ 0) ⊎ (old.failed ≡ true)) (on.results ++ more) x) (sym is)
          (ends_so X more e limit within same how),
    )

  ends_within : (X : Type 0) (limit : ℕ) (over out : Type 0) (results : List ReadResult) (r : Result X ReadFault) → (over → out)
      → EndsReading limit over results r → EndsReading limit out results r
  ends_within X limit over out results (Ok bytes) so ends = ends
  ends_within X limit over out results (Err fault.Failed) so (inl last) = inl last
  ends_within X limit over out results (Err fault.Failed) so (inr (on, few, is)) = inr (on, few, so is)
  ends_within X limit over out results (Err fault.TooLong) so ends = ends
  ends_within X limit over out results (Err fault.OutOfMemory) so ends = tt

  -- if no more reads were made, all were
  all_made : (old new : Reading R) (results : List ReadResult) → MakesReads reads old results new → old.left ≡ FILE_CAP + 1
      → old.failed ≡ false → (new.left ≡ 0) ⊎ (old.failed ≡ true) → length results ≡ FILE_CAP + 1
  all_made old new results made left fresh (inl out) = omega (arith, made.counted, left, out)
  all_made old new results made left fresh (inr failed) = (let h = sym failed ∙ fresh in cc)

  -- a file was read by a reader of its own
  pub file_read : (X : Type 0) (file : R) (old new : Reading R) (r : Result X ReadFault) → old.input ≡ file → old.left ≡ FILE_CAP + 1
      → old.failed ≡ false
      → ((results : List ReadResult) × MakesReads reads old results new
      × EndsReading FILE_CAP ((new.left ≡ 0) ⊎ (old.failed ≡ true)) results r)
      → ReadsFile reads file r
  file_read X file old new r same left fresh (results, made, ends) = record {
    results = results;
    after = new.input;
    each = subst (λ (x : R). Reads reads x results new.input) same made.each;
    few = omega (arith, made.counted, left);
    ends = ends_within X FILE_CAP ((new.left ≡ 0) ⊎ (old.failed ≡ true)) (length results ≡ FILE_CAP + 1) results r
        (all_made old new results made left fresh) ends;
  }
