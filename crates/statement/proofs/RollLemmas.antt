-- The result of a roll, from the results of its two halves.
use Rattle.std.proofs.Common.{◌≡◌, ◌∙◌, ◌⊎◌, ◌<◌, ℕ, List, [], ◌∷◌, Bool, true, false, ◌++◌}
use Rattle.std.proofs.Common.{Ok, Err, Result, refl, ap, subst, inl, inr, arith}
use Rattle.std.specs.Prelude.{IfErr, IfOk, if◌then◌else◌, ◌==◌, ◌&&◌, ◌||◌, nat_lt}
use Rattle.std.proofs.lemmas.Bool.Decides.{nat_tests}
use Rattle.worker_pool.specs.declared.batch.TheConstants.{MAX_WORKERS}
use Rattle.span_csv.specs.PositionFaults.{positions_of}
use Rattle.plan_compiler.specs.Compiled.{SetView}
use Rattle.plan_shelf.specs.Publications.{IsLast}
use Rattle.span_tables.specs.Tables.{AcceptedTables}
use Rattle.span_tables.specs.declared.records.PositionRecord.{PositionRecord}
use Rattle.statement_text.specs.Gives.{is_memory}
use Rattle.result_book.specs.declared.books.BookFault.{BookFault}
use Rattle.result_book.specs.declared.books.BookFault.TheVariants as book
use Rattle.span_tables.specs.Net.{AccountHoldings}
use Rattle.statement.specs.Rolls.{GivesRoll, Refuses, RefusesRoll, is_ok, roll_of, of_next_set}
use Rattle.statement_text.specs.near.SpanFaults.{of_book}
use Rattle.statement_text.specs.Statement.{accepted_of, and_then, portfolios_under, same, statement_bound, statement_of, statement_text}
use Rattle.statement_text.specs.Statement.{statement_under}
use Rattle.statement.specs.Margin.{margin_of}
use Rattle.statement.specs.near.Seconds.{IsPublished, RefusesNext, RefusesSecond, RefusesUnder, Rolls, RollsUnder, second_of}
use Rattle.statement_text.specs.declared.faults.SpanFault.{SpanFault}
use Rattle.statement_text.specs.declared.faults.SpanFault.TheVariants as fault
use Rattle.statement_text.proofs.FaultLemmas.{accepted_of_files, bound_of_files, each_of_files, is_of_files, portfolios_of_files}
use Rattle.statement_text.proofs.FaultLemmas.{statement_of_files}

-- ---- errors

-- an error of one answer is an error of another answer that has the same faults, and that may also keep and publish
refused_too : {A B : Type 0} (answer : Result A SpanFault) (other : Result B SpanFault)
    (may_keep may_publish other_keeps other_publishes : Bool) (e : SpanFault)
    → ((x : SpanFault) → answer ≡ Err x → other ≡ Err x)
    → (may_keep ≡ true → other_keeps ≡ true) → (may_publish ≡ true → other_publishes ≡ true)
    → Refuses answer may_keep may_publish e → Refuses other other_keeps other_publishes e
refused_too answer other k p ok op fault.Memory faults keeps publishes h = tt
refused_too answer other k p ok op (fault.Book f) faults keeps publishes h = (h.0, keeps h.1)
refused_too answer other k p ok op fault.Shelf faults keeps publishes h = publishes h
refused_too answer other k p ok op e faults keeps publishes h = (h.0, faults _ h.1)

-- a fault of two files is an error of the answer that has it
refused_by_own : {A : Type 0} (answer : Result A SpanFault) (may_keep may_publish : Bool) (e : SpanFault)
    → is_of_files e ≡ true → is_memory e ≡ false → answer ≡ Err e → Refuses answer may_keep may_publish e
refused_by_own answer k p e files =
    each_of_files (λ x. is_memory x ≡ false → answer ≡ Err x → Refuses answer k p x)
    (λ f named is. (named, is)) (λ f named is. (named, is)) (λ f named is. (named, is)) (λ f named is. (named, is)) e files

-- a fault of two files, under its name for the next parameter set, is an error of the answer that has it
refused_by_next : {A : Type 0} (answer : Result A SpanFault) (may_keep may_publish : Bool) (e : SpanFault)
    → is_of_files e ≡ true → is_memory e ≡ false → answer ≡ Err (of_next_set e)
    → Refuses answer may_keep may_publish (of_next_set e)
refused_by_next answer k p e files =
    each_of_files (λ x. is_memory x ≡ false → answer ≡ Err (of_next_set x) → Refuses answer k p (of_next_set x))
    (λ f named is. (named, is)) (λ f named is. (named, is)) (λ f named is. (named, is)) (λ f named is. (named, is)) e files

-- ---- the first half

-- positions that were read are bound to the tables
under_read : (tables : AcceptedTables) (positions : List ℕ) (records : List PositionRecord) → positions_of positions ≡ Ok records
    → statement_under tables positions ≡ statement_bound tables records
unfolding statement_under
under_read tables positions records read = rw (read) refl

-- the second statement, by the records of the positions
second_read : (next positions : List ℕ) (records : List PositionRecord) (f : List ℕ → List ℕ)
    → positions_of positions ≡ Ok records
    → and_then of_next_set (statement_of next positions) (λ text. Ok (f text))
    ≡ and_then same (second_of next records) (λ text. Ok (f text))
unfolding statement_of second_of
second_read next positions records f read = by_tables (accepted_of next) where
  by_text : (r : Result (List ℕ) SpanFault) → and_then of_next_set r (λ text. Ok (f text))
      ≡ and_then same (and_then of_next_set r (λ text. Ok text)) (λ text. Ok (f text))
  by_text (Ok text) = refl
  by_text (Err e) = refl

  by_tables : (r : Result AcceptedTables SpanFault)
      → and_then of_next_set (and_then same r (λ tables. statement_under tables positions)) (λ text. Ok (f text))
      ≡ and_then same (and_then of_next_set r (λ tables. and_then of_next_set (statement_bound tables records) (λ text. Ok text)))
      (λ text. Ok (f text))
  by_tables (Ok tables) = rw (under_read tables positions records read) (by_text (statement_bound tables records))
  by_tables (Err e) = refl

-- the result of a roll is the first statement, if there is one, followed by the second
pub roll_is : (workers : ℕ) (params next positions first : List ℕ) (records : List PositionRecord)
    → margin_of workers params positions ≡ Ok first → positions_of positions ≡ Ok records
    → roll_of workers params next positions ≡ and_then same (second_of next records) (λ second. Ok (first ++ second))
unfolding roll_of
roll_is workers params next positions first records stands read =
    rw (stands) (second_read next positions records (λ second. first ++ second) read)

-- a roll fails with the error of its second half
pub refused_second : (workers : ℕ) (params next positions first : List ℕ) (records : List PositionRecord) (e : SpanFault)
    → margin_of workers params positions ≡ Ok first → positions_of positions ≡ Ok records
    → RefusesSecond next records e → RefusesRoll workers params next positions e
refused_second workers params next positions first records e stands read =
    refused_too (second_of next records) (roll_of workers params next positions) true (is_ok (accepted_of next))
    (is_ok (margin_of workers params positions)) (is_ok (margin_of workers params positions) && is_ok (accepted_of next)) e
    (λ x h. roll_is workers params next positions first records stands read
    ∙ ap (λ r. and_then same r (λ second. Ok (first ++ second))) h)
    (λ may. rw (stands) refl) (λ may. rw (stands) may)

-- a roll fails with the error of its first statement
pub refused_first : (workers : ℕ) (params next positions : List ℕ) (e : SpanFault)
    → margin_of workers params positions ≡ statement_of params positions
    → (e ≡ fault.Memory) ⊎ ((is_memory e ≡ false) × (statement_of params positions ≡ Err e))
    → RefusesRoll workers params next positions e
unfolding roll_of
refused_first workers params next positions e same_text (inl memory) = rw (memory) tt
refused_first workers params next positions e same_text (inr named) =
    refused_by_own (roll_of workers params next positions) _ _ e (statement_of_files params positions e named.1) named.0
    (rw (same_text, named.1) refl)

-- the second half never fails because of the number of workers
pub second_never_workers : (next : List ℕ) (records : List PositionRecord) → RefusesSecond next records fault.Workers → ⊥
unfolding second_of
second_never_workers next records h = by_tables (accepted_of next) (λ e is. accepted_of_files next e is) h.1 where
  renamed : (e : SpanFault) → is_of_files e ≡ true → of_next_set e ≡ fault.Workers → ⊥
  renamed e files =
      each_of_files (λ x. of_next_set x ≡ fault.Workers → ⊥) (λ f is. cc) (λ f is. cc) (λ f is. cc) (λ f is. cc) e files

  by_text : (tables : AcceptedTables) (r : Result (List ℕ) SpanFault) → statement_bound tables records ≡ r
      → and_then of_next_set r (λ text. Ok text) ≡ Err fault.Workers → ⊥
  by_text tables (Ok text) bound is = cc
  by_text tables (Err e) bound is = renamed e (bound_of_files tables records e bound) (cc)

  by_tables : (r : Result AcceptedTables SpanFault) → ((e : SpanFault) → r ≡ Err e → is_of_files e ≡ true)
      → and_then of_next_set r (λ tables. and_then of_next_set (statement_bound tables records) (λ text. Ok text)) ≡ Err fault.Workers → ⊥
  by_tables (Ok tables) files is = by_text tables (statement_bound tables records) refl is
  by_tables (Err e) files is = renamed e (files e refl) (cc)

-- ---- the second half

-- the next parameter set is rejected, with the fault under its name there
pub refused_set : (next : List ℕ) (e : SpanFault)
    → (e ≡ fault.Memory) ⊎ ((is_memory e ≡ false) × (accepted_of next ≡ Err e)) → RefusesNext next (of_next_set e)
refused_set next e (inl memory) = rw (memory) tt
refused_set next e (inr named) =
    refused_by_next (and_then of_next_set (accepted_of next) (λ tables. Ok tables)) false _ e
    (accepted_of_files next e named.1) named.0 (rw (named.1) refl)

-- the positions are rejected under the next parameter set
pub refused_bound : (tables : AcceptedTables) (records : List PositionRecord) (e : SpanFault)
    → (e ≡ fault.Memory) ⊎ ((is_memory e ≡ false) × (portfolios_under tables records ≡ Err e))
    → RefusesUnder tables records (of_next_set e)
unfolding statement_bound
refused_bound tables records e (inl memory) = rw (memory) tt
refused_bound tables records e (inr named) =
    refused_by_next (and_then of_next_set (statement_bound tables records) (λ text. Ok text)) true false e
    (portfolios_of_files tables records e named.1) named.0 (rw (named.1) refl)

-- an error of the next parameter set is an error of the second statement
pub next_refuses : (next : List ℕ) (records : List PositionRecord) (e : SpanFault) → RefusesNext next e
    → RefusesSecond next records e
unfolding second_of
next_refuses next records e =
    refused_too (and_then of_next_set (accepted_of next) (λ tables. Ok tables)) (second_of next records) false
    (is_ok (accepted_of next)) true (is_ok (accepted_of next)) e (go_on (accepted_of next)) (λ may. refl) (λ may. may) where
      go_on : (r : Result AcceptedTables SpanFault) (x : SpanFault) → and_then of_next_set r (λ tables. Ok tables) ≡ Err x
          → and_then of_next_set r (λ tables. and_then of_next_set (statement_bound tables records) (λ text. Ok text)) ≡ Err x
      go_on (Ok tables) x h = cc
      go_on (Err f) x h = cc

-- an error of the statement under the next tables is an error of the second statement
pub under_refuses : (next : List ℕ) (records : List PositionRecord) (tables : AcceptedTables) (e : SpanFault)
    → accepted_of next ≡ Ok tables → RefusesUnder tables records e → RefusesSecond next records e
unfolding second_of
under_refuses next records tables e accepted =
    refused_too (and_then of_next_set (statement_bound tables records) (λ text. Ok text)) (second_of next records) true false true
    (is_ok (accepted_of next)) e (λ x h. rw (accepted) h) (λ may. may) (λ may. rw (accepted) refl)

-- the statement under the next tables is the second statement
pub under_stands : (next : List ℕ) (records : List PositionRecord) (tables : AcceptedTables) (first text : List ℕ)
    → accepted_of next ≡ Ok tables → RollsUnder tables records first text → Rolls next records first text
unfolding second_of
under_stands next records tables first text accepted stands =
    rw (accepted) (by_text (statement_bound tables records) ∙ stands) where
      by_text : (r : Result (List ℕ) SpanFault) → and_then same (and_then of_next_set r (λ second. Ok second))
          (λ second. Ok (first ++ second)) ≡ and_then of_next_set r (λ second. Ok (first ++ second))
      by_text (Ok second) = refl
      by_text (Err e) = refl

-- the statement under the next tables is the statement of the portfolios
pub under_portfolios : (tables : AcceptedTables) (records : List PositionRecord) (portfolios : List AccountHoldings)
    (first : List ℕ) → portfolios_under tables records ≡ Ok portfolios
    → RollsUnder tables records first (first ++ statement_text tables portfolios)
unfolding statement_bound
under_portfolios tables records portfolios first is = rw (is) refl

-- a book rejects rows if it has no number left, or if memory ran out
pub refused_rows : {A X Y : Type 0} (answer : Result A SpanFault) (may_publish : Bool) (e : BookFault)
    → ((e ≡ book.NoMoreBatches) × X) ⊎ ((e ≡ book.OutOfMemory) × Y) → Refuses answer true may_publish (of_book e)
refused_rows answer may_publish e (inl full) = rw (full.0) (refl, refl)
refused_rows answer may_publish e (inr memory) = rw (memory.0) tt

-- the error of a book that rejects rows, as a fault of the whole program
pub unkept_rows : {X Y : Type 0} (e : BookFault) → ((e ≡ book.NoMoreBatches) × X) ⊎ ((e ≡ book.OutOfMemory) × Y)
    → (of_book e ≡ fault.Memory) ⊎ (of_book e ≡ fault.Book book.NoMoreBatches)
unkept_rows e (inl full) = rw (full.0) (inr refl)
unkept_rows e (inr memory) = rw (memory.0) (inl refl)

-- an error in putting the rows of the first statement in the book is an error of the second half
pub kept_refuses : {A : Type 0} (answer : Result A SpanFault) (may_publish : Bool) (e : SpanFault)
    → (e ≡ fault.Memory) ⊎ (e ≡ fault.Book book.NoMoreBatches) → Refuses answer true may_publish e
kept_refuses answer may_publish e (inl memory) = rw (memory) tt
kept_refuses answer may_publish e (inr full) = rw (full) (refl, refl)

-- the last of two publications is the next parameter set
pub next_is_last : (next : List ℕ) (first set : SetView) (told : List SetView) → IsPublished next (first ∷ []) told
    → IsLast told set → accepted_of next ≡ Ok set.tables
next_is_last next first set told published last =
    let is : IsLast (first ∷ published.set ∷ []) set = subst (λ (l : List SetView). IsLast l set) published.added last in
    let same_set : published.set ≡ set = cc in
    rw (← same_set) published.accepted

-- ---- the whole roll

-- a number of workers that is rejected
pub workers_refused : (workers : ℕ) (params next positions : List ℕ) → (workers ≡ 0) ⊎ (16 < workers)
    → roll_of workers params next positions ≡ Err fault.Workers
unfolding roll_of margin_of
workers_refused workers params next positions (inl none) = rw (none) refl
workers_refused workers params next positions (inr many) =
    let test : nat_lt MAX_WORKERS workers ≡ true = grind (arith, nat_tests, many) in
    by_tests (workers == 0) (nat_lt MAX_WORKERS workers) test where
      by_tests : (none many : Bool) → many ≡ true
          → and_then same (if none || many then Err fault.Workers else statement_of params positions) (λ first.
          and_then of_next_set (statement_of next positions) (λ second. Ok (first ++ second))) ≡ Err fault.Workers
      by_tests true many h = refl
      by_tests false true h = refl
      by_tests false false h = cc

-- a number of workers that is accepted
pub workers_allowed : (workers : ℕ) (params positions : List ℕ) → 0 < workers → workers < 17
    → margin_of workers params positions ≡ statement_of params positions
unfolding margin_of
workers_allowed workers params positions some few =
    let one : (workers == 0) ≡ false = grind (arith, nat_tests, some) in
    let other : nat_lt MAX_WORKERS workers ≡ false = grind (arith, nat_tests, few) in
    by_tests (workers == 0) (nat_lt MAX_WORKERS workers) one other where
      by_tests : (none many : Bool) → none ≡ false → many ≡ false
          → (if none || many then Err fault.Workers else statement_of params positions) ≡ statement_of params positions
      by_tests true many h k = cc
      by_tests false true h k = cc
      by_tests false false h k = refl

-- the result of a roll, if it has a first statement
pub roll_gives : {Y : Type 0} (said : Y → List ℕ) (workers : ℕ) (params next positions first : List ℕ)
    (records : List PositionRecord) (r : Result Y SpanFault)
    → margin_of workers params positions ≡ Ok first → positions_of positions ≡ Ok records
    → IfOk r (λ y. Rolls next records first (said y)) → IfErr r (λ e. RefusesSecond next records e)
    → GivesRoll said workers params next positions r
roll_gives said workers params next positions first records (Ok y) stands read text refused =
    roll_is workers params next positions first records stands read ∙ text
roll_gives said workers params next positions first records (Err e) stands read text refused =
    refused_second workers params next positions first records e stands read refused
