-- Outcomes of concatenated lists of accounts.
use Rattle.std.proofs.Common.{List, [], ◌∷◌, ◌++◌}
use Rattle.span_tables.specs.Net.{AccountHoldings}
use Rattle.plan_compiler.specs.Compiled.{SetView}
use Rattle.worker_pool.specs.Outcomes.{AreOutcomes}
use Rattle.worker_pool.specs.declared.outcomes.Outcome.{Outcome}

pub outcomes_joined : (set : SetView) (ps qs : List AccountHoldings) (outcomes others : List Outcome)
    → AreOutcomes set ps outcomes → AreOutcomes set qs others → AreOutcomes set (ps ++ qs) (outcomes ++ others)
outcomes_joined set [] qs [] others is are = are
outcomes_joined set [] qs (o ∷ outcomes) others is are = absurd is
outcomes_joined set (p ∷ ps) qs [] others is are = absurd is
outcomes_joined set (p ∷ ps) qs (o ∷ outcomes) others is are =
    (is.0, outcomes_joined set ps qs outcomes others is.1 are)
