use Rattle.std.proofs.Common.{◌*◌, List, take, sym, ap, ◌∙◌}
use Rattle.std.proofs.lemmas.List.Sums.{fold_more}
use Rattle.span_tables.specs.Sides.{market_side}
use Rattle.inter_credit.specs.Credits.{change_at, state_after, states_after}
use Rattle.inter_credit.specs.declared.commodity_state.CommodityState.{CommodityState}
use Rattle.span_tables.specs.declared.records.CommodityLeg.{CommodityLeg}
use Rattle.inter_credit.proofs.StateLemmas.{HaveRoom-drop, HaveRoom-first}
use Rattle.inter_credit.proofs.forming.use_legs.Goals as goal

pub use_leg-requires-clause-room : goal.use_leg-requires-clause-room
use_leg-requires-clause-room c =
    HaveRoom-first c.args.direction c.args.formed c.args.legs.now c.loop-leg.leg-index c.leg-item.result c.loop-leg.states
    c.loop-leg-test.true c.leg-item.is c.loop-leg.invariant.room

pub loop-leg-preserved : goal.loop-leg-preserved
loop-leg-preserved c =
    let leg = c.leg-item.result in
    let d = c.args.direction in
    let legs = c.args.legs.now in
    let i = c.loop-leg.leg-index in
    let step : CommodityLeg → List CommodityState → List CommodityState =
    λ x ls. change_at (state_after (market_side d x.side) (c.args.formed * x.ratio) c.args.basis_points) x.commodity ls in
    record {
      so_far =
          c.use_leg.ensures.value ∙ ap (step leg) c.loop-leg.invariant.so_far
          ∙ ap (λ x. step x (states_after d c.args.formed c.args.basis_points (take i legs) c.args.states.now)) c.leg-item.is
          ∙ sym (fold_more (λ ls x. step x ls) c.args.states.now legs i leg c.loop-leg-test.true);
      states = c.use_leg.ensures.states;
      room = HaveRoom-drop d c.args.formed c.args.legs.now c.loop-leg.leg-index leg c.loop-leg.states c.use_leg.new.states
          (state_after (market_side d leg.side) (c.args.formed * leg.ratio) c.args.basis_points)
          c.loop-leg-test.true c.leg-item.is c.use_leg.ensures.value c.loop-leg.invariant.room;
    }
