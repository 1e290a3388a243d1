use Rattle.std.proofs.Common.{◌∙◌, ap, arith, sym}
use Rattle.std.proofs.lemmas.Bool.Decides.{nat_tests}
use Rattle.span_tables.specs.Sides.{spreads_formed}
use Rattle.span_tables.specs.declared.sides.Direction.TheVariants.{ALong, AShort}
use Rattle.inter_credit.specs.Credits.{commodity_rooms}
use Rattle.inter_credit.specs.near.Index.{FormsNothing}
use Rattle.inter_credit.proofs.NothingFormed.{nothing_changes}
use Rattle.inter_credit.proofs.forming.forms.Goals as goal

pub returns-else-spreads_formed-gt0 : goal.returns-else-spreads_formed-gt0
returns-else-spreads_formed-gt0 c none = nothing_changes c.args.states.now c.args.spread.now nothing
  where
    nothing : FormsNothing c.args.states.now c.args.spread.now
    nothing ALong =
        ap (λ legs. spreads_formed (commodity_rooms ALong legs c.args.states.now)) (sym c.legs-legs.ensures)
        ∙ sym c.spreads_formed.ensures ∙ omega (arith, c.if-spreads_formed-gt0.false)
    nothing AShort =
        ap (λ legs. spreads_formed (commodity_rooms AShort legs c.args.states.now)) (sym c.legs-legs.ensures)
        ∙ sym c.spreads_formed-else-spreads_formed-gt0.ensures ∙ grind (arith, nat_tests, none)
