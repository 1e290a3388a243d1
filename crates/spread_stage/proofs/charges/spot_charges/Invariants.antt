use Rattle.std.proofs.Common.{◌≡◌, ◌≤◌, ◌+◌, ◌*◌}
use Rattle.span_tables.specs.declared.limits.TheConstants.{MAX_RATE, MAX_SPOT_MONTHS, MAX_UNITS}
use Rattle.span_tables.proofs.WordFolds.{AreFormed}
use Rattle.spread_stage.specs.Charges.{spot_charge}
use Rattle.spread_stage.proofs.charges.spot_charges.Given as goal

abbrev pub invariant-loop-number : goal.invariant-loop-number
invariant-loop-number l = record {
  formed : AreFormed (λ s x. s + spot_charge l.months l.rests x) (λ s x. spot_charge l.months l.rests x ≡ 0) l.spots 0 l.sum l.left;
  small : l.sum ≤ 2 * (MAX_UNITS * MAX_RATE) * MAX_SPOT_MONTHS;
}

abbrev pub decreases-loop-number : goal.decreases-loop-number
decreases-loop-number l = l.left
