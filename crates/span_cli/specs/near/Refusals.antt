-- What the library knows of a rejection.
use Rattle.std.specs.Prelude.{◌≡◌, ◌⊎◌, ℕ, List, [], ◌∷◌, ◌++◌, Some, None, Result, Ok, Err}
use Rattle.session.specs.Answers.{opened}
use Rattle.session.specs.Conversations.{opening_text}
use Rattle.session.specs.declared.session.Opened.{Opened}
use Rattle.statement_text.specs.FaultLines.{fault_line, fault_status}
use Rattle.statement_text.specs.declared.faults.SpanFault.{SpanFault}
use Rattle.statement_text.specs.declared.faults.SpanFault.TheVariants as fault
use Rattle.statement_text.specs.declared.statuses.TheConstants.{FILE_FAILED}
use Rattle.span_cli.specs.Serving.{Answer, Found, answer_of, file_line, memory, refused}
use Rattle.span_cli.specs.Telling.{Tells}
use Rattle.sources.specs.Files.{File}
use Rattle.span_cli.specs.declared.serving.Given.{Given}
use Rattle.span_cli.specs.declared.serving.Refusal.{Refusal}
use Rattle.span_cli.specs.declared.serving.Refusal.TheVariants as refusal
use Rattle.sources.specs.declared.ReadFault.TheVariants as read
use Rattle.writers.specs.Streams.{Stream}

-- the line of a rejection
abbrev pub refusal_line : Refusal → List ℕ
refusal_line (refusal.File name) = file_line name.now
refusal_line (refusal.Fault e) = fault_line e

-- the status of a rejection
abbrev pub refusal_status : Refusal → ℕ
refusal_status (refusal.File name) = FILE_FAILED
refusal_status (refusal.Fault e) = fault_status e

-- the answer for a rejection
abbrev pub refusal_answer : Refusal → Answer
refusal_answer r = refused (refusal_status r) (refusal_line r)

-- the result as an answer with nothing for the error stream
abbrev pub given_answer : Given → Answer
given_answer given = record { status = given.status; out = given.text.items; err = [] }

-- the answer for the result of a call has the property P, unless memory ran out
abbrev pub MayGive : {X : Type 0} → (X → Answer) → Result X SpanFault → (Answer → Type 0) → Type 0
MayGive view (Ok given) P = P (view given)
MayGive view (Err e) P = (e ≡ fault.Memory) ⊎ P (answer_of (Err e))

-- the result of a load is the file, unless memory ran out
abbrev pub Loads : {X : Type 0} → (X → List ℕ) → List ℕ → File → Result X Refusal → Type 0
Loads view name file (Ok bytes) = file ≡ Ok (view bytes)
Loads view name file (Err (refusal.File n)) = (n.now ≡ name) × ((file ≡ Err read.Failed) ⊎ (file ≡ Err read.TooLong))
Loads view name file (Err (refusal.Fault e)) = e ≡ fault.Memory

-- the result of loads is the result of reading the files, unless memory ran out
abbrev pub LoadsAll : {X : Type 0} → (X → List (List ℕ)) → Result (List (List ℕ)) Answer → Result X Refusal → Type 0
LoadsAll view found (Ok files) = found ≡ Ok (view files)
LoadsAll view found (Err r) = (r ≡ refusal.Fault fault.Memory) ⊎ (found ≡ Err (refusal_answer r))

-- the result of reading files, if these were read before the others and the others have this result
abbrev pub read_then : List (List ℕ) → Found → Found
read_then files None = None
read_then files (Some (Err refusal)) = Some (Err refusal)
read_then files (Some (Ok others)) = Some (Ok (files ++ others))

-- ---- services

-- a session over these files was opened, or rejected for their fault, unless memory ran out
abbrev pub Opens : List (List ℕ) → Result Opened SpanFault → Type 0
Opens (params ∷ positions ∷ []) (Ok o) = (opened params positions ≡ Ok o.session) × (o.text.items ≡ opening_text o.session)
Opens (params ∷ positions ∷ []) (Err e) = (e ≡ fault.Memory) ⊎ (opened params positions ≡ Err e)
Opens files r = ⊥

-- an answer with the property P was reported, or out of memory
abbrev pub TellsSome : (Answer → Type 0) → ℕ → Stream → Stream → Stream → Stream → Type 0
TellsSome P given old_out new_out old_err new_err =
    ((answer : Answer) × P answer × Tells answer given old_out new_out old_err new_err)
    ⊎ Tells memory given old_out new_out old_err new_err
