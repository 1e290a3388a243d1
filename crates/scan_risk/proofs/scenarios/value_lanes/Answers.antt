use Rattle.scan_risk.proofs.LaneLemmas.{values_kept}
use Rattle.scan_risk.proofs.scenarios.value_lanes.Goals as goal

pub returns : goal.returns
returns c = values_kept c.args.of.now.values c.requires.values
