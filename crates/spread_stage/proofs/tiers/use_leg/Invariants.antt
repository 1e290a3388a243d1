use Rattle.std.proofs.Common.{◌≡◌, ◌++◌, take, drop}
use Rattle.spread_stage.proofs.UseLemmas.{leg_in_turn}
use Rattle.spread_stage.proofs.tiers.use_leg.Given as goal

abbrev pub invariant-loop-place : goal.invariant-loop-place
invariant-loop-place l = record {
  all : take l.place l.rests ++ leg_in_turn l.on l.leg l.left (drop l.place l.rests)
      ≡ leg_in_turn l.on l.leg l.needed l.fn.rests;
  rest : drop l.place l.rests ≡ drop l.place l.fn.rests;
}
