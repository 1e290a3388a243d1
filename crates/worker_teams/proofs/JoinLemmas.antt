-- Outcomes of two slices of a list of accounts.
use Rattle.std.proofs.Common.{◌≡◌, ℕ, List, ◌++◌, drop, take}
use Rattle.std.proofs.lemmas.List.{take-append-drop}
use Rattle.span_tables.specs.Net.{AccountHoldings}
use Rattle.plan_compiler.specs.Compiled.{SetView}
use Rattle.worker_pool.proofs.OutcomeLemmas.{outcomes_joined}
use Rattle.worker_pool.specs.Outcomes.{AreOutcomes}
use Rattle.worker_pool.specs.declared.outcomes.Outcome.{Outcome}

-- outcomes of two slices of a list of accounts, joined, are outcomes of the whole list
pub slices_joined : (set : SetView) (ps first last : List AccountHoldings) (n : ℕ) (outcomes others : List Outcome)
    → first ≡ take n ps → last ≡ drop n ps → AreOutcomes set first outcomes → AreOutcomes set last others
    → AreOutcomes set ps (outcomes ++ others)
slices_joined set ps first last n outcomes others is_first is_last is are =
    let one = rw is_first at is in
    let other = rw is_last at are in
    let joined = outcomes_joined set (take n ps) (drop n ps) outcomes others one other in
    rw (take-append-drop n ps) at joined
