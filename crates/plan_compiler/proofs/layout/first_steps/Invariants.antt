use Rattle.std.proofs.Common.{◌≡◌, ◌≤◌, ◌*◌, ◌+◌, map}
use Rattle.std.specs.List.{range_with_len}
use Rattle.span_tables.specs.declared.limits.TheConstants.{MAX_INTRA_SPREADS}
use Rattle.plan_compiler.specs.declared.layout.TheConstants.{COMMODITY_STEPS, VALUE_STEPS}
use Rattle.plan_compiler.specs.Places.{first_step}
use Rattle.plan_compiler.proofs.layout.first_steps.Given as goal

abbrev pub invariant-loop-c : goal.invariant-loop-c
invariant-loop-c l = record {
  firsts : l.firsts.items ≡ map (first_step l.tables) (range_with_len 0 l.c);
  first : l.first ≡ first_step l.tables l.c;
  small : l.first ≤ l.c * (COMMODITY_STEPS + VALUE_STEPS + MAX_INTRA_SPREADS);
}
