use Rattle.std.proofs.Common.{◌∙◌, lit<}
use Rattle.span_tables.specs.declared.limits.TheConstants.{MAX_SUM}
use Rattle.scan_risk.proofs.LaneLemmas.{lanes_kept}
use Rattle.scan_risk.proofs.scenarios.sums.Goals as goal

pub returns-clause-value : goal.returns-clause-value
returns-clause-value c = lanes_kept c.lane_sums.result MAX_SUM (lit< tt) c.lane_sums.ensures.bound ∙ c.lane_sums.ensures.value

pub returns-clause-bound : goal.returns-clause-bound
returns-clause-bound c = rw (lanes_kept c.lane_sums.result MAX_SUM (lit< tt) c.lane_sums.ensures.bound) c.lane_sums.ensures.bound
