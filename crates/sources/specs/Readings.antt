-- What is known of a reader that counts its reads, and remembers whether one of them failed.
use Rattle.std.specs.Prelude.{◌≡◌, ◌≢◌, ◌⊎◌, ◌+◌, ℕ, Bool, true, false, MatchBool}
use Rattle.std.specs.Prelude.{List, [], ◌∷◌, ◌++◌, All, Option, Result, Ok, Err, length}
use Rattle.std.specs.IoError.{error_kind}
use Rattle.std.specs.declared.io.Error.{Error}
use Rattle.std.specs.declared.io.ErrorKind.TheVariants.{Interrupted}
use Rattle.sources.specs.declared.ReadFault.{ReadFault}
use Rattle.sources.specs.declared.ReadFault.TheVariants as fault

-- the input; the bytes of it that remain, if they are known; how many reads are left; and whether a read failed
pub record Reading (R : Type 0) : Type 0 where
  pub input : R
  pub bytes : Option (List ℕ)
  pub left : ℕ
  pub failed : Bool

-- the result of a read: the number of bytes that it returned, or its error
abbrev pub ReadResult : Type 0
ReadResult = Result ℕ Error

-- a read was interrupted
abbrev pub IsInterrupted : ReadResult → Type 0
IsInterrupted (Ok count) = ⊥
IsInterrupted (Err e) = error_kind e ≡ Interrupted

-- a read failed: it returned an error that is no interruption
abbrev pub IsFailure : ReadResult → Type 0
IsFailure (Ok count) = ⊥
IsFailure (Err e) = error_kind e ≢ Interrupted

-- whether a read failed, by its result
abbrev pub Tells : Bool → ReadResult → Type 0
Tells failed (Ok count) = failed ≡ false
Tells failed (Err e) = MatchBool failed (error_kind e ≢ Interrupted) (error_kind e ≡ Interrupted)

-- Reads of an input returned these results, in order. `reads` states it of one read, and the input before and after it.
abbrev pub Reads : {R : Type 0} → (R → ReadResult → R → Type 0) → R → List ReadResult → R → Type 0
Reads reads old [] new = new ≡ old
Reads {R} reads old (result ∷ results) new = (next : R) × reads old result next × Reads reads next results new

-- a reader made these reads of its input, and counted each of them
pub record MakesReads {R : Type 0} (reads : R → ReadResult → R → Type 0) (old : Reading R) (results : List ReadResult) (new : Reading R)
    : Type 0 where
  pub each : Reads reads old.input results new.input
  pub counted : new.left + length results ≡ old.left

-- reads whose results have the property P, and a last one
pub record IsLast (P : ReadResult → Type 0) (last : ReadResult) (results : List ReadResult) : Type 0 where
  pub before : List ReadResult
  pub all : All P before
  pub is : results ≡ before ++ last ∷ []

-- What a reader returns after these reads. It repeats a read that is interrupted. It returns the number of bytes of the last
-- read, and fails exactly if the last read failed, if no reads are left, or if a read failed before.
abbrev pub Returns : {R : Type 0} → Reading R → List ReadResult → Reading R → Result ℕ ReadFault → Type 0
Returns old results new (Ok count) = IsLast IsInterrupted (Ok count) results
Returns old results new (Err e) =
    (e ≡ fault.Failed)
    × (((error : Error) × IsFailure (Err error) × IsLast IsInterrupted (Err error) results)
    ⊎ ((All IsInterrupted results × (new.left ≡ 0)) ⊎ ((old.failed ≡ true) × (results ≡ []))))

-- the last read of an input failed
abbrev pub LastFailed : {R : Type 0} → (R → ReadResult → R → Type 0) → R → Type 0
LastFailed {R} reads now = (before : R) × (result : ReadResult) × reads before result now × IsFailure result

-- Reading has failed for good: a read failed, or no reads are left. If a read failed, it was the last one of the input.
abbrev pub HasFailed : {R : Type 0} → (R → ReadResult → R → Type 0) → Reading R → Type 0
HasFailed reads reading =
    (reading.failed ≡ false → reading.left ≡ 0) × ∥ LastFailed reads reading.input ⊎ (reading.left ≡ 0) ∥₁
