use Rattle.std.proofs.Common.{◌-◌, ◌≤◌, length}
use Rattle.span_csv.proofs.cuts.cut_from.Given as goal

abbrev pub invariant-loop-line : goal.invariant-loop-line
invariant-loop-line l = l.at ≤ length l.bytes

abbrev pub decreases-loop-line : goal.decreases-loop-line
decreases-loop-line l = length l.bytes - l.at
