-- How the reads of a file end.
use Rattle.std.specs.Prelude.{◌≡◌, ◌⊎◌, ◌+◌, ◌<◌, ◌≤◌, ⊤, ℕ, List, [], ◌∷◌, All, Result, Ok, Err, length}
use Rattle.std.specs.IoError.{error_kind}
use Rattle.std.specs.declared.io.Error.{Error}
use Rattle.std.specs.declared.io.ErrorKind.TheVariants.{Interrupted}
use Rattle.sources.specs.Readings.{IsFailure, IsLast, ReadResult, Reads}
use Rattle.sources.specs.declared.ReadFault.{ReadFault}
use Rattle.sources.specs.declared.ReadFault.TheVariants as fault
use Rattle.sources.specs.declared.TheConstants.{FILE_CAP}

-- after a read with this result the file is read on: there were bytes, or the read was interrupted
abbrev pub GoesOn : ReadResult → Type 0
GoesOn (Ok count) = 0 < count
GoesOn (Err e) = error_kind e ≡ Interrupted

-- the number of bytes that these reads returned
abbrev pub bytes_read : List ReadResult → ℕ
bytes_read [] = 0
bytes_read (Ok count ∷ results) = count + bytes_read results
bytes_read (Err e ∷ results) = bytes_read results

-- These reads of a file, at most `cap` bytes, had this result. Its bytes end with a read that returned none. The file counts as
-- unreadable if a read failed, or if reading neither ended, nor failed, nor found one byte too many until `is_over`.
abbrev pub EndsReading : {X : Type 0} → ℕ → Type 0 → List ReadResult → Result X ReadFault → Type 0
EndsReading cap is_over results (Ok bytes) = IsLast GoesOn (Ok 0) results
EndsReading cap is_over results (Err fault.Failed) =
    ((e : Error) × IsFailure (Err e) × IsLast GoesOn (Err e) results) ⊎ (All GoesOn results × (bytes_read results ≤ cap) × is_over)
EndsReading cap is_over results (Err fault.TooLong) = All GoesOn results × (cap < bytes_read results)
EndsReading cap is_over results (Err fault.OutOfMemory) = ⊤

-- A file was read, and this is the result. `reads` states what one read of it returned. There are at most `FILE_CAP + 1` reads,
-- and it is after so many that a file counts as unreadable.
pub record ReadsFile {R X : Type 0} (reads : R → ReadResult → R → Type 0) (file : R) (result : Result X ReadFault) : Type 0 where
  pub results : List ReadResult
  pub after : R
  pub each : Reads reads file results after
  pub few : length results ≤ FILE_CAP + 1
  pub ends : EndsReading FILE_CAP (length results ≡ FILE_CAP + 1) results result
