use Rattle.spread_stage.proofs.UseLaws.{side_before_is}
use Rattle.spread_stage.proofs.laws.side_before_is_a_running_sum.Goals as goal

pub returns : goal.returns
returns c = side_before_is
