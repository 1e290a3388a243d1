use Rattle.span_cli.proofs.ServingLemmas.{of_roll}
use Rattle.span_cli.proofs.serving.rolled.Goals as goal

pub returns : goal.returns
returns g c = of_roll _ _ _ _ _ _ c.roll.ensures.text
