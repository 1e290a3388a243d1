use Rattle.std.proofs.Common.{arith, subst, sym, take, ◌+◌}
use Rattle.spread_stage.specs.near.TierSums.{AreOpen, AreSums}
use Rattle.spread_stage.specs.declared.tier_sums.TierSums.{TierSums}
use Rattle.spread_stage.proofs.TierStartLemmas.{nothing_open, nothing_summed, open_more, room_for, sums_more, sums_same}
use Rattle.spread_stage.proofs.tier_sums.add_months.Goals.{then-tier-tiers, else-tier-tiers}
use Rattle.spread_stage.proofs.tier_sums.add_months.Goals as goal

pub loop-place-init : goal.loop-place-init
loop-place-init c = record {
  sums = nothing_summed c.args.tiers.now c.clear.new.self c.clear.ensures.sums c.clear.ensures.spans;
  sides = nothing_open c.args.tiers.now c.clear.new.self c.clear.ensures.sums c.none-sides.result;
}

pub add-requires-clause-room : goal.add-requires-clause-room
add-requires-clause-room c =
    room_for c.args.tiers.now c.requires.tiers c.args.months.now c.loop-place.place (omega arith) c.index-months-place.result
    c.index-months-place.is c.number_of-tier.result c.number_of-tier.ensures c.loop-place.sums c.requires.months
    c.loop-place.invariant.sums (omega (arith, c.if-tier-tiers.true))

pub loop-place-preserved : goal.loop-place-preserved
loop-place-preserved c =
    let months = c.args.months.now in
    let month = c.index-months-place.result in
    let before = c.loop-place.invariant in
    let After : TierSums → Type 0 = AreSums c.args.tiers.now (take (c.loop-place.place + 1) months) in
    elim c.if-tier-tiers.branch [
      | then-tier-tiers w ↦ record {
        sums = subst After (sym w.sums-is) (sums_more c.args.tiers.now c.requires.tiers months c.loop-place.place (omega arith) month
            c.index-months-place.is c.number_of-tier.result c.number_of-tier.ensures c.loop-place.sums _ w.add.ensures.sums
            w.add.ensures.spans before.sums);
        sides = subst (λ s. AreOpen c.args.tiers.now s c.if-tier-tiers.sides) (sym w.sums-is)
            (subst (AreOpen c.args.tiers.now w.add.new.self) (sym w.sides-is)
            (open_more c.args.tiers.now c.requires.tiers.few c.number_of-tier.result month.units c.loop-place.sums
            w.add.new.self c.loop-place.sides w.with-sides.result
            w.add.ensures.sums w.with-sides.ensures.added w.with-sides.ensures.kept before.sides));
      }
      | else-tier-tiers w ↦ record {
        sums = subst After (sym w.sums-is) (sums_same c.args.tiers.now c.requires.tiers months c.loop-place.place (omega arith) month
            c.index-months-place.is c.number_of-tier.result c.number_of-tier.ensures c.loop-place.sums (omega (arith, w.if-tier-tiers))
            before.sums);
        sides = subst (λ s. AreOpen c.args.tiers.now s c.if-tier-tiers.sides) (sym w.sums-is)
            (subst (AreOpen c.args.tiers.now c.loop-place.sums) (sym w.sides-is) before.sides);
      }
    ]
