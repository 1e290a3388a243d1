-- A session whose files are rejected has the fault of their statement.
use Rattle.std.proofs.Common.{◌≡◌, ◌<◌, ◌≤◌, ℕ, false, List, Result, Ok, Err, arith}
use Rattle.std.specs.Prelude.{◌||◌, ◌==◌, nat_lt}
use Rattle.session.specs.Answers.{opened}
use Rattle.session.specs.Conversations.{Turn, session_of}
use Rattle.statement.specs.Margin.{margin_of}
use Rattle.statement_text.specs.Statement.{accepted_of, and_then, portfolios_under, same, statement_bound, statement_of, statement_under}
use Rattle.statement_text.specs.declared.faults.SpanFault.{SpanFault}
use Rattle.statement_text.specs.declared.faults.SpanFault.TheVariants as fault
use Rattle.worker_pool.specs.declared.batch.TheConstants.{MAX_WORKERS}

module _ {A B C F : Type 0} (named : F → SpanFault) (e : SpanFault) where
  -- if g fails with e whenever f does, then an outcome followed by g fails with e whenever it does followed by f
  refused_too : (o : Result A F) (f : A → Result B SpanFault) (g : A → Result C SpanFault) → ((x : A) → f x ≡ Err e → g x ≡ Err e)
      → and_then named o f ≡ Err e → and_then named o g ≡ Err e
  refused_too (Ok x) f g h is = h x is
  refused_too (Err y) f g h is = cc

-- if what follows an outcome cannot fail, the fault is the outcome's
refused_first : {A B : Type 0} (o : Result A SpanFault) (f : A → B) (e : SpanFault) → and_then same o (λ x. Ok (f x)) ≡ Err e → o ≡ Err e
refused_first (Ok x) f e is = cc
refused_first (Err y) f e is = cc

refused_statement : (params positions : List ℕ) (e : SpanFault) → opened params positions ≡ Err e → statement_of params positions ≡ Err e
unfolding opened statement_of statement_under statement_bound
refused_statement params positions e =
    refused_too same e (accepted_of params) _ _ (λ tables.
    refused_too fault.Positions e _ _ _ (λ records.
    refused_too same e (portfolios_under tables records) _ _ (λ accounts is. cc)))

refused_opening : (params positions : List ℕ) (turns : List Turn) (e : SpanFault) → session_of params positions turns ≡ Err e
    → opened params positions ≡ Err e
unfolding session_of
refused_opening params positions turns e is = refused_first (opened params positions) _ e is

-- a valid number of workers is not rejected
within_limits : (workers : ℕ) → 0 < workers → workers ≤ MAX_WORKERS → (workers == 0 || nat_lt MAX_WORKERS workers) ≡ false
within_limits workers some within = grind arith

pub refused_as_statement : (params positions : List ℕ) (turns : List Turn) (workers : ℕ) (e : SpanFault) → 0 < workers
    → workers ≤ MAX_WORKERS → session_of params positions turns ≡ Err e → margin_of workers params positions ≡ Err e
unfolding margin_of
refused_as_statement params positions turns workers e some within is =
    rw (within_limits workers some within) (refused_statement params positions e (refused_opening params positions turns e is))
