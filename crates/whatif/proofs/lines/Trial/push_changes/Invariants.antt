use Rattle.std.proofs.Common.{◌≡◌, ◌++◌, flat_map}
use Rattle.std.specs.List.{range_with_len}
use Rattle.binding.specs.OrderBinding.{TriedOrder}
use Rattle.whatif.specs.near.Trials.{IsTried, change_text}
use Rattle.whatif.proofs.lines.Trial.push_changes.Given as goal

abbrev pub invariant-loop-commodity : goal.invariant-loop-commodity
invariant-loop-commodity l =
    (o : TriedOrder) → IsTried l.self o
    → l.out.items ≡ l.fn.out.items ++ flat_map (change_text l.self.tables o) (range_with_len 0 l.commodity)
