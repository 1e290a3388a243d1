-- The results of the calls that answer a request.
use Rattle.std.specs.Prelude.{◌≡◌, ⊤, ℕ, Bool, true, false, All, List, MatchBool, Option, Result, Ok, Err, is_ok, length, map, option_map}
use Rattle.std.specs.Option.{option_to_list}
use Rattle.sources.specs.Files.{File}
use Rattle.sources.specs.Reads.{ReadsAll}
use Rattle.span_tables.specs.Holdings.{fits}
use Rattle.worker_pool.specs.Batches.{AllFit}
use Rattle.session.specs.Conversations.{IsFromSource, given}
use Rattle.sources.specs.declared.ReadFault.{ReadFault}
use Rattle.session.specs.Accounts.{with_account}
use Rattle.session.specs.Answers.{Answered, State}
use Rattle.session.specs.declared.session.Change.{Change}
use Rattle.session.specs.declared.session.Change.TheVariants as change
use Rattle.session.specs.near.InUse.{state_of}
use Rattle.session.specs.Refusals.{Refused, refused_by}
use Rattle.session.specs.declared.refusals.Refusal.{Refusal}
use Rattle.session.specs.declared.refusals.Refusal.TheVariants as refusal

-- the refusal means that memory ran out, which says nothing about the answer of the definition
abbrev pub is_memory : Refusal → Bool
is_memory refusal.Memory = true
is_memory _ = false

-- The result of a call that answers a request: the text, empty before, has the answer's lines, and the value gives the
-- state after it; or the call failed with the answer's refusal.
abbrev pub Answers : {X : Type 0} → (X → State) → Result X Refusal → List ℕ → Result Answered Refused → Type 0
Answers state (Ok x) text answer = answer ≡ Ok (record { lines = text; state = state x })
Answers state (Err r) text answer = MatchBool (is_memory r) ⊤ (answer ≡ Err (refused_by r))

-- the result of reading a file, from the result of a call
abbrev pub file_read : {X : Type 0} → (X → List ℕ) → Result X ReadFault → File
file_read view (Ok bytes) = Ok (view bytes)
file_read view (Err e) = Err e

-- the result of reading the file that was asked for, if any
abbrev pub file_given : {X : Type 0} → (X → List ℕ) → Option (Result X ReadFault) → Option File
file_given view read = option_map (file_read view) read

-- the file with this name was read, if there is a name and a result, and no other file was
pub record IsRead {S : Type 0} (known : List ℕ → Option File) (reads : S → List ℕ → Bool → S → Type 0) (before : S)
    (name : Option (List ℕ)) (file : Option File) (after : S) : Type 0 where
  pub files : All (IsFromSource known) (option_to_list (given name file))
  pub in_order : ReadsAll reads before (map (λ f. (f.0, is_ok f.1)) (option_to_list (given name file))) after

-- the state after a change
abbrev pub changed : State → Change → State
changed s change.Nothing = s
changed s (change.Account after) = record { tables = s.tables; accounts = with_account s.accounts after }
changed s (change.Set set accounts) = state_of set.value accounts

-- the new holdings of a change fit the parameter set
abbrev pub ChangeFits : State → Change → Type 0
ChangeFits s change.Nothing = ⊤
ChangeFits s (change.Account after) = fits (length s.tables.contracts) after.holdings ≡ true
ChangeFits s (change.Set set accounts) = AllFit set.value accounts
