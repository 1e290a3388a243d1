use Rattle.std.proofs.Common.{◌≡◌, ◌++◌, flat_map}
use Rattle.std.specs.List.{range_with_len}
use Rattle.span_money.specs.LineFields.{line}
use Rattle.explanation.specs.Explanation.{commodity_lines}
use Rattle.explanation.proofs.accounts.push_account.Given as goal

abbrev pub invariant-loop-number : goal.invariant-loop-number
invariant-loop-number l =
    l.out.items ≡ l.fn.out.items
    ++ flat_map (λ n. flat_map line (commodity_lines l.row.set.tables l.row.portfolio n)) (range_with_len 0 l.number)
