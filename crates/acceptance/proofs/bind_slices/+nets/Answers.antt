use Rattle.std.proofs.Common.{rules, ◌≡◌, ◌+◌, ◌-◌, ◌++◌, ◌∙◌}
use Rattle.binding.specs.near.Ledgers.{slice_nets}
use Rattle.acceptance.proofs.BindingLemmas.{slices_join}
use Rattle.acceptance.proofs.bind_slices.+nets.Goals as goal

pub returns : goal.returns
returns g t c =
    let ids = c.args.binder.now in
    let positions = c.args.positions.now in
    let from = c.args.from in
    let front = c.cut_at-front.result in
    let one : c.in_ok-nets.nets.items ≡ slice_nets ids positions from front = search rules in
    let other : c.in_ok-second.field-0.items ≡ slice_nets ids positions (from + front) (c.args.count - front) = search rules in
    c.in_ok-append.ensures.items ∙ (λ i. one i ++ other i) ∙ slices_join ids positions from front c.args.count c.cut_at-front.ensures
