use Rattle.std.proofs.Common.{◌≡◌, true, take}
use Rattle.std.specs.List.{list_all}
use Rattle.span_tables.specs.Names.{is_name}
use Rattle.span_csv.proofs.numbered.are_names.Given as goal

abbrev pub invariant-loop-i : goal.invariant-loop-i
invariant-loop-i l = list_all is_name (take l.i l.row) ≡ true
