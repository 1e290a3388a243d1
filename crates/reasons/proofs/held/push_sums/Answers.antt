use Rattle.std.proofs.Common.{◌∷◌, [], ◌++◌, ap, ◌∙◌, arith, flat_map, map}
use Rattle.std.specs.Fmt.{signed_decimal}
use Rattle.std.specs.Prelude.{codes}
use Rattle.std.proofs.lemmas.List.{take_all}
use Rattle.span_money.specs.LineFields.{field}
use Rattle.span_money.specs.near.Fields.{field_text}
use Rattle.span_money.proofs.LinePartLemmas.{in_parts}
use Rattle.reasons.proofs.held.push_sums.Goals as goal

pub returns : goal.returns
returns c =
    let ids = map field_text c.args.ids.now in
    let begun = c.args.out.now.items ++ codes "SUMS" ++ flat_map field ids in
    c.in_ok-push.ensures.items
    ∙ ap (λ t. t ++ 10 ∷ [])
    (c.loop-sum.invariant
    ∙ ap (λ xs. begun ++ flat_map field (map signed_decimal xs))
    (take_all c.loop-sum.sum-index c.args.sums.now (omega (arith, c.loop-sum-test.false))))
    ∙ in_parts c.args.out.now.items (codes "SUMS") ids (map signed_decimal c.args.sums.now)
