use Rattle.spread_stage.proofs.SpotLemmas.{spot_more}
use Rattle.spread_stage.proofs.spot_index.SpotIndex.new.Goals as goal

pub loop-number-preserved : goal.loop-number-preserved
loop-number-preserved c =
    spot_more c.loop-number.index c.add.new.self c.args.spots.now c.loop-number.number c.index-spots-number.result
    c.loop-number-test.true c.add.ensures.added c.add.ensures.kept c.loop-number.invariant
