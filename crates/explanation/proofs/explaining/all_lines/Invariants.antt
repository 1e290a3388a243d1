use Rattle.std.proofs.Common.{◌≡◌, flat_map}
use Rattle.std.specs.Arc.{arc_value}
use Rattle.explanation.specs.Explanation.{account_text}
use Rattle.explanation.proofs.explaining.all_lines.Given as goal

abbrev pub invariant-loop-portfolio : goal.invariant-loop-portfolio
invariant-loop-portfolio l = record {
  lines : l.out.items ≡ flat_map (account_text (arc_value l.set).tables) l.yielded;
  set : l.runs ≡ arc_value l.set;
}
