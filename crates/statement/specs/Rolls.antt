-- The result of a roll: two statements for the same positions, under a parameter set and under the next one.
use Rattle.std.specs.Prelude.{◌≡◌, ⊤, ℕ, List, ◌++◌, ◌&&◌, Bool, true, false, Result, Ok, Err}
use Rattle.result_book.specs.declared.books.BookFault.TheVariants as book
use Rattle.statement_text.specs.Gives.{is_memory}
use Rattle.statement_text.specs.Statement.{accepted_of, and_then, same, statement_of}
use Rattle.statement.specs.Margin.{margin_of}
use Rattle.statement_text.specs.declared.faults.SpanFault.{SpanFault}
use Rattle.statement_text.specs.declared.faults.SpanFault.TheVariants as fault

-- a fault that occurs under the next parameter set has its own name
abbrev pub of_next_set : SpanFault → SpanFault
of_next_set (fault.Params e) = fault.NextParams e
of_next_set (fault.Check e) = fault.NextCheck e
of_next_set (fault.Bind e) = fault.NextBind e
of_next_set e = e

-- The statement of the positions under the parameters, followed by their statement under the next ones; or the first
-- fault, in this order: the number of workers, the parameters, the positions, the next parameters, the positions under
-- the next parameters.
unfoldable pub roll_of : ℕ → List ℕ → List ℕ → List ℕ → Result (List ℕ) SpanFault
roll_of workers params next positions =
    and_then same (margin_of workers params positions) (λ first.
    and_then of_next_set (statement_of next positions) (λ second. Ok (first ++ second)))

-- there is no fault
abbrev pub is_ok : {A : Type 0} → Result A SpanFault → Bool
is_ok (Ok x) = true
is_ok (Err e) = false

-- Why a call returns no answer. Out of memory says nothing about the files. A book fails only if a batch may be kept in
-- it, and only if it has given out all its numbers. A shelf fails only if a set may be published on it. Any other fault
-- is the answer's own.
abbrev pub Refuses : {A : Type 0} → Result A SpanFault → Bool → Bool → SpanFault → Type 0
Refuses answer may_keep may_publish fault.Memory = ⊤
Refuses answer may_keep may_publish (fault.Book e) = (e ≡ book.NoMoreBatches) × (may_keep ≡ true)
Refuses answer may_keep may_publish fault.Shelf = may_publish ≡ true
Refuses answer may_keep may_publish e = (is_memory e ≡ false) × (answer ≡ Err e)

-- why a roll fails: a batch may be kept if there is a first statement, and a set may be published if the next one is
-- accepted too
abbrev pub RefusesRoll : ℕ → List ℕ → List ℕ → List ℕ → SpanFault → Type 0
RefusesRoll workers params next positions e =
    Refuses (roll_of workers params next positions) (is_ok (margin_of workers params positions))
    (is_ok (margin_of workers params positions) && is_ok (accepted_of next)) e

-- the text of both statements, or why the roll fails
abbrev pub GivesRoll : {Y : Type 0} → (Y → List ℕ) → ℕ → List ℕ → List ℕ → List ℕ → Result Y SpanFault → Type 0
GivesRoll said workers params next positions (Ok y) = roll_of workers params next positions ≡ Ok (said y)
GivesRoll said workers params next positions (Err e) = RefusesRoll workers params next positions e
