use Rattle.spread_stage.proofs.SpotLemmas.{among_more}
use Rattle.spread_stage.proofs.spot_index.SpotIndex.among.Goals as goal

pub loop-month-preserved : goal.loop-month-preserved
loop-month-preserved c =
    among_more c.args.self.now c.args.months.now c.loop-month.month-index c.month-item.result c.loop-month-test.true c.month-item.is
    c.slot_of.result c.slot_of.ensures.slot c.loop-month.found c.loop-month.invariant
