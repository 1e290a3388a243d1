use Rattle.std.proofs.Common.{◌∙◌, sym}
use Rattle.std.proofs.lemmas.Bool.{eq-eqb, eqb-true}
use Rattle.step_scheduler.proofs.BoardLemmas.{all_done_sum}
use Rattle.step_scheduler.proofs.progress.all_done.Goals as goal

pub returns : goal.returns
returns c =
    let sum = all_done_sum c.args.steps.now in (
      (λ yes. sum.0 (c.requires ∙ eqb-true _ _ yes)),
      (λ all. eq-eqb _ _ (sym c.requires ∙ sum.1 all)),
    )
