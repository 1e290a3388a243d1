use Rattle.spread_stage.proofs.UseLaws.{used_total}
use Rattle.spread_stage.proofs.laws.leg_uses_what_it_needs.Goals as goal

pub returns : goal.returns
returns c = used_total
