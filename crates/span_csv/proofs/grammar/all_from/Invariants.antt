use Rattle.std.proofs.Common.{◌≡◌, drop}
use Rattle.span_csv.specs.near.Grammar.{passes}
use Rattle.span_csv.specs.Records.{all_have}
use Rattle.span_csv.proofs.grammar.all_from.Given as goal

abbrev pub invariant-loop-i : goal.invariant-loop-i
invariant-loop-i l =
    all_have (passes l.test) (drop l.i l.forms) (drop l.i (drop l.place l.row))
    ≡ all_have (passes l.test) l.forms (drop l.place l.row)
