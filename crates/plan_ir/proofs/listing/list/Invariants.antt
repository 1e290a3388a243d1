use Rattle.std.proofs.Common.{◌≡◌, flat_map, take}
use Rattle.std.specs.List.{enumerate_from}
use Rattle.plan_ir.specs.Listing.{step_line}
use Rattle.plan_ir.proofs.listing.list.Given as goal

abbrev pub invariant-loop-k : goal.invariant-loop-k
invariant-loop-k l = l.out.items ≡ flat_map (λ numbered. step_line numbered.0 numbered.1) (take l.k (enumerate_from 0 l.plan))
