-- How a result changes the board that receives it.
use Rattle.std.specs.Prelude.{IfSome, IsSome, MatchOption, OnErr, OnOk, Err, Ok, None, Option, Result, Some, is_some}
use Rattle.std.proofs.Common.{◌≡◌, ℕ, true, [], ◌∷◌, ◌++◌, sym, ap, ◌∙◌}
use Rattle.std.proofs.Math.Bool.{or-false}
use Rattle.std.proofs.lemmas.Bool.{false≢true}
use Rattle.step_scheduler.specs.Boards.{BoardView}
use Rattle.step_scheduler.specs.Runs.{is_taken}
use Rattle.step_scheduler.specs.declared.boards.Refused.{Refused}
use Rattle.step_scheduler.specs.declared.events.Event.TheVariants.{Finish}
use Rattle.step_scheduler.proofs.Histories.{is_taken-push}

-- there is a value if an option was found
pub some_if_some : {A V : Type 0} (o : Option A) (value : Option V) (f : A → V) → true ≡ is_some o
    → MatchOption o (value ≡ None) (λ a. value ≡ Some (f a)) → IsSome value
some_if_some None value f e found = absurd (false≢true (sym e))
some_if_some (Some a) value f e found = ap is_some found

-- a result takes no step of the board
pub taken_stays : {V : Type 0} (old new : BoardView) (k : ℕ) (value : Option V) (r : Result (Unit {0}) Refused)
    → IsSome value → OnErr r (new ≡ old)
    → OnOk r (IfSome value (λ v. new ≡ record old { history = old.history ++ Finish k ∷ [] }))
    → (j : ℕ) → is_taken new.history j ≡ is_taken old.history j
taken_stays old new k None r some refused ok j = absurd (false≢true some)
taken_stays old new k (Some v) (Ok u) some refused ok j =
    ap (λ (b : BoardView). is_taken b.history j) ok
    ∙ is_taken-push old.history (Finish k) j ∙ or-false (is_taken old.history j)
taken_stays old new k (Some v) (Err e) some refused ok j = ap (λ (b : BoardView). is_taken b.history j) refused
