use Rattle.scan_risk.proofs.LaneLemmas.{sums_fit, sums_are}
use Rattle.scan_risk.proofs.scenarios.with_terms.Goals as goal

pub overflow_add-result : goal.overflow_add-result
overflow_add-result c = sums_fit c.args.sums c.args.terms c.requires.room c.requires.terms

pub returns : goal.returns
returns c = sums_are c.args.sums c.args.terms c.requires.room c.requires.terms
