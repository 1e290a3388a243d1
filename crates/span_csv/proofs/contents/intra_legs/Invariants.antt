use Rattle.span_csv.specs.near.Grammar.{is_right}
use Rattle.span_csv.specs.Records.{all_have, intra_leg, intra_leg_forms}
use Rattle.span_csv.proofs.LegLemmas.{LegsRead}
use Rattle.span_csv.proofs.contents.intra_legs.Given as goal

abbrev pub invariant-loop-i : goal.invariant-loop-i
invariant-loop-i l = LegsRead intra_leg (all_have is_right intra_leg_forms) 4 l.row l.i l.legs.items
