use Rattle.std.proofs.Common.{◌∙◌, List, ap, subst, sym}
use Rattle.std.specs.Int.{bit_at}
use Rattle.span_tables.proofs.LegIndexLemmas.{neither}
use Rattle.inter_credit.specs.near.Index.{FormsNothing}
use Rattle.inter_credit.specs.declared.commodity_state.CommodityState.{CommodityState}
use Rattle.inter_credit.proofs.IndexLemmas.{not_found}
use Rattle.inter_credit.proofs.state.InterState.may_form.Goals as goal

pub returns : goal.returns
returns c number spread has none =
    subst (λ (states : List CommodityState). FormsNothing states spread) c.self.view_is
    (not_found c.args.block.now number spread c.self.inside.sides c.self.inside.commodities.items c.self.invariant.open_sides has
    (λ f l ends d. c.may_form.ensures number f l ends d
    (neither c.may_form.result number (ap (λ w. bit_at w number) (sym c.either.ensures) ∙ none) d)))
