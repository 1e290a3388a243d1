use Rattle.std.proofs.Common.{◌∙◌, Some, ap, arith, sym, w64}
use Rattle.std.proofs.lemmas.Int.{to_z-of_z}
use Rattle.span_money.specs.Numbers.{with_sign}
use Rattle.span_money.proofs.TextLaws.{splits_whole}
use Rattle.span_money.proofs.WordLemmas.{fits_64}
use Rattle.span_money.proofs.texts.split_whole.Goals as goal

pub returns : goal.returns
returns c =
    let parts = c.in_ok-n.ensures.parts in
    let fits =
    fits_64 c.with_minus.result c.in_ok-n.n (omega (arith, c.with_minus.ensures.size)) (omega (arith, c.in_ok-n.ensures.small)) in
    let split = splits_whole c.args.text.now parts.0 c.in_ok-n.rest.now (sym c.split_minus-negative.ensures.rest ∙ parts.1) parts.2 in (
      split.0,
      split.1,
      split.2 ∙ (λ i. Some (with_sign (sym c.split_minus-negative.ensures.minus i) (sym parts.3 i)))
          ∙ ap Some (sym c.with_minus.ensures.value ∙ sym (to_z-of_z w64 c.with_minus.result fits)),
    )
