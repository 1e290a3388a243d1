use Rattle.std.proofs.Common.{◌∙◌, rules}
use Rattle.std.proofs.lemmas.List.Sorted.{answers_always}
use Rattle.binding.proofs.OrderLaws.{over_found, over_absent}
use Rattle.binding.proofs.over_limits.is_over_at.Goals as goal

pub returns-in-Ok : goal.returns-in-Ok
returns-in-Ok c =
    let by_number = c.in-Ok.ensures.position (λ h. h.contract) (answers_always _ _ _ (λ f a r g called. search rules)) in
    c.is_over.ensures ∙ over_found c.args.holdings.now c.requires c.args.contract c.in-Ok.place _ c.in-Ok.ensures.bound by_number

pub returns-in-Err : goal.returns-in-Err
returns-in-Err c =
    let by_number = c.in-Err.ensures.position (λ h. h.contract) (answers_always _ _ _ (λ f a r g called. search rules)) in
    over_absent c.args.holdings.now c.requires c.args.contract _ c.in-Err.ensures.bound by_number
