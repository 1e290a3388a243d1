use Rattle.spread_stage.proofs.LeftOutLemmas.{some_legs}
use Rattle.spread_stage.proofs.TierFormLemmas.{ratios_kept}
use Rattle.spread_stage.proofs.tier_sums.spread_one_way.Goals as goal

pub form-formed-requires-clause-ratios : goal.form-formed-requires-clause-ratios
form-formed-requires-clause-ratios c = rw c.deref.ensures.0 (ratios_kept c.args.spread.now.legs.items c.requires.intra.ratios_above)

pub form-formed-requires-clause-legs : goal.form-formed-requires-clause-legs
form-formed-requires-clause-legs c = rw c.deref.ensures.0 (some_legs c.args.spread.now c.requires.intra)
