use Rattle.std.proofs.Common.{◌≡◌, ◌+◌, ◌∙◌, ap, arith, cond}
use Rattle.span_tables.specs.declared.sides.Direction.{Direction}
use Rattle.span_tables.specs.declared.sides.Direction.TheVariants.{ALong, AShort}
use Rattle.spread_stage.specs.Spreads.{TierRests, spread_both_ways, spread_one_way}
use Rattle.spread_stage.specs.near.TierPlans.{intra_of}
use Rattle.spread_stage.proofs.LeftOutLemmas.{formed_alone}
use Rattle.spread_stage.proofs.SizeLemmas.{shrinks_none}
use Rattle.spread_stage.proofs.tier_sums.spread_open_ways.Goals as goal

pub returns-then-not-a_short-clause-value : goal.returns-then-not-a_short-clause-value
returns-then-not-a_short-clause-value c charge =
    let s = intra_of c.args.spread.now in
    let t : TierRests = record { rests = c.args.rests.now; charge = charge } in
    let after : TierRests = record { rests = c.spread_one_way-charge.new.rests; charge = charge + c.spread_one_way-charge.result } in
    formed_alone t after s c.args.a_long c.args.a_short
    (c.spread_one_way-charge.ensures.value charge ∙ ap (λ (d : Direction). spread_one_way s d t) c.first_way-first.ensures)
    c.requires.not_a_long c.requires.not_a_short
    (c.spread_one_way-charge.ensures.shrinks c.args.rests.now (shrinks_none c.args.rests.now)) (grind (arith, c.if-not-a_short.either))

pub returns-clause-value : goal.returns-clause-value
unfolding spread_both_ways
returns-clause-value c charge =
    let s = intra_of c.args.spread.now in
    let t : TierRests = record { rests = c.args.rests.now; charge = charge } in
    let first = c.spread_one_way-charge in
    let a_long : c.first_way-first.result ≡ ALong =
    c.first_way-first.ensures ∙ ap (λ b. cond b ALong AShort) c.if-not-a_short.false.0 in
    let sum : charge + (first.result + c.spread_one_way.result) ≡ charge + first.result + c.spread_one_way.result = omega arith in
    ap (λ n. let u : TierRests = record { rests = c.spread_one_way.new.rests; charge = n } in u) sum
    ∙ c.spread_one_way.ensures.value (charge + first.result)
    ∙ ap (spread_one_way s AShort) (first.ensures.value charge ∙ ap (λ (d : Direction). spread_one_way s d t) a_long)
