use Rattle.std.proofs.Common.{◌≡◌, take, drop, All}
use Rattle.inter_credit.specs.Credits.{states_after}
use Rattle.inter_credit.specs.near.Rooms.{HaveRoom}
use Rattle.inter_credit.specs.near.CommodityStates.{IsCommodityState}
use Rattle.inter_credit.proofs.forming.use_legs.Given as goal

abbrev pub invariant-loop-leg : goal.invariant-loop-leg
invariant-loop-leg l = record {
  so_far : l.states ≡ states_after l.direction l.formed l.basis_points (take l.leg-index l.legs) l.fn.states;
  states : All IsCommodityState l.states;
  room : HaveRoom l.direction l.formed (drop l.leg-index l.legs) l.states;
}
