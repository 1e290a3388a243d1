use Rattle.std.proofs.Common.{◌∙◌, ap, filter, map, subst, sym}
use Rattle.std.specs.List.Sorted.{IsStrictlyIncreasing}
use Rattle.binding.specs.near.Holdings.{is_over}
use Rattle.binding.proofs.OrderLaws.{filter_rise}
use Rattle.binding.proofs.nets.AccountNets.over.Goals as goal

pub invariant_of-result : goal.invariant_of-result
invariant_of-result c =
    let held = c.self.inside.holdings.items in
    subst (λ hs. IsStrictlyIncreasing (map (λ h. h.contract) hs))
    (sym (c.in_ok-holdings.ensures ∙ ap (filter is_over) c.deref.ensures.value))
    (filter_rise is_over held c.self.invariant)
