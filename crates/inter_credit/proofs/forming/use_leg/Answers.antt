use Rattle.std.proofs.Common.{◌*◌}
use Rattle.span_tables.specs.Sides.{market_side}
use Rattle.inter_credit.specs.Credits.{state_after}
use Rattle.inter_credit.proofs.StateLemmas.{change_from_set}
use Rattle.inter_credit.proofs.forming.use_leg.Goals as goal

pub returns-clause-value : goal.returns-clause-value
returns-clause-value c =
    let leg = c.args.leg.now in
    change_from_set (state_after (market_side c.args.direction leg.side) (c.args.formed * leg.ratio) c.args.basis_points) leg.commodity
    c.args.states.now c.index-states-leg.result c.state_after.result c.index-states-leg.is
    (simp (c.market_side-on.ensures, c.from.ensures, c.get.ensures) at c.state_after.ensures.value)
