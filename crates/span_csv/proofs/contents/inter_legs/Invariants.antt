use Rattle.span_csv.specs.near.Grammar.{is_right}
use Rattle.span_csv.specs.Records.{all_have, inter_leg, inter_leg_forms}
use Rattle.span_csv.proofs.LegLemmas.{LegsRead}
use Rattle.span_csv.proofs.contents.inter_legs.Given as goal

abbrev pub invariant-loop-i : goal.invariant-loop-i
invariant-loop-i l = LegsRead inter_leg (all_have is_right inter_leg_forms) 3 l.row l.i l.legs.items
