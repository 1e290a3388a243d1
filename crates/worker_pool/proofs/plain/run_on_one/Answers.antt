use Rattle.std.proofs.Common.{[], ◌∷◌, ◌∙◌}
use Rattle.worker_pool.proofs.OutcomeLemmas.{outcomes_joined}
use Rattle.worker_pool.proofs.plain.run_on_one.Goals as goal

pub loop-portfolio-preserved : goal.loop-portfolio-preserved
loop-portfolio-preserved g c =
    let outcome = rw c.loop-portfolio.invariant.set at c.outcome.ensures.outcome in
    record {
      outcomes = rw c.in_ok-push.ensures.items
          (outcomes_joined _ c.loop-portfolio.yielded (_ ∷ []) _ (_ ∷ []) c.loop-portfolio.invariant.outcomes (outcome, tt));
      set = c.outcome.ensures.same ∙ c.loop-portfolio.invariant.set;
    }
