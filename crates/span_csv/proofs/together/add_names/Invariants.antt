use Rattle.std.proofs.Common.{◌≡◌, take}
use Rattle.span_csv.specs.near.Pieces.{with_names}
use Rattle.span_csv.proofs.together.add_names.Given as goal

abbrev pub invariant-loop-name : goal.invariant-loop-name
invariant-loop-name l = l.accounts.keys ≡ with_names l.initial.accounts.keys (take l.name-index l.names)
