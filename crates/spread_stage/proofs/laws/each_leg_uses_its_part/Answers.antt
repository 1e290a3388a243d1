use Rattle.spread_stage.proofs.ApartLaws.{legs_fall}
use Rattle.spread_stage.proofs.laws.each_leg_uses_its_part.Goals as goal

pub returns : goal.returns
returns c = legs_fall
