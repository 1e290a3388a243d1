use Rattle.std.proofs.Common.{◌++◌, ◌∙◌, ap}
use Rattle.binding.specs.near.Holdings.{found_faults}
use Rattle.binding.proofs.over_limits.all_faults.Goals as goal

pub returns : goal.returns
unfolding found_faults
returns c =
    c.in_ok-append-2.ensures.items ∙ ap (λ fs. fs ++ c.in_ok-many.many.items) c.in_ok-append.ensures.items
    ∙ (λ k. c.args.unknown.items ++ c.in_ok-over.ensures k ++ c.in_ok-many.ensures k)
