use Rattle.std.proofs.Common.{◌≡◌, ◌++◌, flat_map}
use Rattle.std.specs.List.{range_with_len}
use Rattle.statement_text.specs.Statement.{commodity_text}
use Rattle.statement_text.proofs.lines.push_row.Given as goal

abbrev pub invariant-loop-number : goal.invariant-loop-number
invariant-loop-number l = l.out.items
    ≡ l.fn.out.items ++ flat_map (commodity_text l.row.set.tables l.row.portfolio) (range_with_len 0 l.number)
