use Rattle.std.proofs.Common.{◌≡◌, ◌++◌, map}
use Rattle.std.specs.Arc.{arc_value}
use Rattle.result_book.proofs.batches.BatchRows.rows.Given as goal

-- the rows so far, followed by the remaining ones, are all rows
abbrev pub invariant-loop-row : goal.invariant-loop-row
invariant-loop-row l = map arc_value l.rows.items ++ map arc_value l.row-iterator ≡ l.self
