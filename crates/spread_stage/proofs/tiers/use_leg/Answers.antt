use Rattle.std.proofs.Common.{sym, ◌∙◌, arith, drop}
use Rattle.spread_stage.proofs.UseLemmas.{from_span, in_turn_is, to_span, unreached_size}
use Rattle.spread_stage.proofs.tiers.use_leg.Goals as goal

pub loop-place-init : goal.loop-place-init
loop-place-init c = record {
  all = from_span c.args.on c.args.leg.now c.args.needed c.args.rests.now c.args.span c.requires.span;
  rest = λ i. drop c.args.span.first c.args.rests.now;
}

pub less_used-month-requires-clause-rest : goal.less_used-month-requires-clause-rest
less_used-month-requires-clause-rest c =
    let size = unreached_size c.args.rests.now c.loop-place.rests c.loop-place.place c.index-rests-place.result (omega arith)
    c.loop-place.invariant.rest in
    omega (arith, size, c.requires.small)

pub returns : goal.returns
returns c =
    let leg = c.args.leg.now in
    let up = c.requires.span.up in
    let before = c.loop-place.invariant in
    sym (to_span c.args.on leg c.loop-place.left c.loop-place.place c.args.rests.now c.loop-place.rests c.args.span c.requires.span
    (omega (arith, up, c.loop-place-test.false, c.loop-place.auto.place-end)) before.rest)
    ∙ before.all ∙ in_turn_is c.args.on leg c.args.needed c.args.rests.now c.requires.rise
