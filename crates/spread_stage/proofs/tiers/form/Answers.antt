use Rattle.std.proofs.Common.{sym, arith}
use Rattle.spread_stage.proofs.SpreadLemmas.{formed_within, formed_falls, legs_rise, legs_shrink, legs_none}
use Rattle.spread_stage.proofs.tiers.form.Goals as goal

pub use_legs-requires-clause-fit : goal.use_legs-requires-clause-fit
use_legs-requires-clause-fit c =
    rw c.spreads_formed-formed.ensures (formed_within c.args.direction c.args.legs.now c.args.rests.now c.requires.small)

pub returns-then-formed-gt0-clause-rise : goal.returns-then-formed-gt0-clause-rise
returns-then-formed-gt0-clause-rise c =
    rw c.use_legs.ensures (legs_rise c.args.direction c.spreads_formed-formed.result c.args.legs.now c.args.rests.now c.requires.rise)

pub returns-then-formed-gt0-clause-less : goal.returns-then-formed-gt0-clause-less
returns-then-formed-gt0-clause-less c =
    rw (c.use_legs.ensures, c.spreads_formed-formed.ensures)
    (formed_falls c.args.direction c.args.legs.now c.args.rests.now c.requires.rise c.requires.legs c.requires.ratios)

pub returns-then-formed-gt0-clause-shrinks : goal.returns-then-formed-gt0-clause-shrinks
returns-then-formed-gt0-clause-shrinks c months h =
    rw c.use_legs.ensures (legs_shrink c.args.direction c.spreads_formed-formed.result months c.args.legs.now c.args.rests.now h)

pub returns-else-formed-gt0-clause-rests : goal.returns-else-formed-gt0-clause-rests
returns-else-formed-gt0-clause-rests c =
    sym (legs_none c.args.direction c.spreads_formed-formed.result c.args.legs.now c.args.rests.now (omega arith))
