use Rattle.spread_stage.proofs.MonthLaws.{month_deltas_rise, net_delta_is}
use Rattle.spread_stage.proofs.laws.months_rise_and_add_up.Goals as goal

pub returns-clause-rise : goal.returns-clause-rise
returns-clause-rise c = month_deltas_rise

pub returns-clause-add_up : goal.returns-clause-add_up
returns-clause-add_up c = net_delta_is
