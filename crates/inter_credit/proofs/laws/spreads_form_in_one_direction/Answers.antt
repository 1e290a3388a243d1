use Rattle.inter_credit.proofs.DirectionLaws.{one_direction}
use Rattle.inter_credit.proofs.laws.spreads_form_in_one_direction.Goals as goal

pub returns : goal.returns
returns c = one_direction
