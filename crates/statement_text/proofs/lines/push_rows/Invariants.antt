use Rattle.std.proofs.Common.{◌≡◌, ◌++◌, flat_map, map, take}
use Rattle.std.specs.Arc.{arc_value}
use Rattle.statement_text.specs.Statement.{row_text}
use Rattle.statement_text.proofs.lines.push_rows.Given as goal

abbrev pub invariant-loop-row : goal.invariant-loop-row
invariant-loop-row l =
    l.out.items ≡ l.fn.out.items ++ flat_map (λ r. row_text r.set.tables r.portfolio) (map arc_value (take l.row-index l.rows))
