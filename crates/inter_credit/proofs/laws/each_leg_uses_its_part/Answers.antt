use Rattle.inter_credit.proofs.LegLaws.{formed_fall, others_stay}
use Rattle.inter_credit.proofs.laws.each_leg_uses_its_part.Goals as goal

pub returns-clause-legs : goal.returns-clause-legs
returns-clause-legs c = formed_fall

pub returns-clause-others : goal.returns-clause-others
returns-clause-others c = others_stay
