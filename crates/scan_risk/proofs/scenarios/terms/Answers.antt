use Rattle.std.proofs.Common.{◌≡◌, ℤ, List, length, replicate, refl, w64, to_z, of_z, FitsSigned}
use Rattle.std.proofs.lemmas.Int.{to_z-of_z}
use Rattle.span_tables.specs.declared.limits.TheConstants.{SCENARIOS}
use Rattle.scan_risk.proofs.LaneLemmas.{terms_fit, terms_are, terms_small}
use Rattle.scan_risk.proofs.scenarios.terms.Goals as goal

-- there are as many lanes of the net quantity as values
nets_are : (nets vs : List ℤ) (net : ℤ) → FitsSigned w64 net → length vs ≡ SCENARIOS
    → nets ≡ replicate SCENARIOS (to_z w64 (of_z w64 net)) → nets ≡ replicate (length vs) net
nets_are nets vs net fits sixteen is = rw (sixteen, is, to_z-of_z w64 net fits) refl

pub overflow_mul-result : goal.overflow_mul-result
overflow_mul-result c =
    let vs = c.args.of.now.values in
    let nets = nets_are c.net_lanes.result vs c.args.net c.ranges.net c.requires.of.sixteen c.net_lanes.ensures in
    rw (nets, c.value_lanes.ensures) (terms_fit c.args.net vs c.requires.net c.requires.of.values)

pub returns-clause-value : goal.returns-clause-value
returns-clause-value c =
    let vs = c.args.of.now.values in
    let nets = nets_are c.net_lanes.result vs c.args.net c.ranges.net c.requires.of.sixteen c.net_lanes.ensures in
    rw (nets, c.value_lanes.ensures) (terms_are c.args.net vs c.requires.net c.requires.of.values)

pub returns-clause-bound : goal.returns-clause-bound
returns-clause-bound c =
    rw (returns-clause-value c) (terms_small c.args.net c.args.of.now.values c.requires.net c.requires.of.values)
