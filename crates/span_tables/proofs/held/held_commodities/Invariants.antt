use Rattle.std.proofs.Common.{◌≡◌, length, take}
use Rattle.span_tables.specs.declared.limits.TheConstants.{MAX_COMMODITIES}
use Rattle.span_tables.proofs.HeldFlags.{AreFlags}
use Rattle.span_tables.proofs.held.held_commodities.Given as goal

abbrev pub invariant-loop-holding : goal.invariant-loop-holding
invariant-loop-holding l =
    (length l.held ≡ MAX_COMMODITIES) × AreFlags l.tables (take l.holding-index l.holding-items) l.held
