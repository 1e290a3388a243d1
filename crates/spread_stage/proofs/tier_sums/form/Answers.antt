use Rattle.std.proofs.Common.{◌<◌, ◌∙◌, ap, arith, subst, sym}
use Rattle.std.proofs.lemmas.List.{length-map}
use Rattle.std.proofs.lemmas.List.Elements.{All-map}
use Rattle.span_tables.specs.Sides.{spreads_formed}
use Rattle.spread_stage.proofs.SpreadLemmas.{formed_falls, legs_none, legs_rise, legs_shrink}
use Rattle.spread_stage.proofs.TierFormLemmas.{legs_fit, months_in, rooms_are, tiers_within}
use Rattle.spread_stage.proofs.tier_sums.form.Goals as goal

pub spreads_formed-formed-requires-clause-tiers : goal.spreads_formed-formed-requires-clause-tiers
spreads_formed-formed-requires-clause-tiers c = tiers_within c.args.tiers.now c.args.legs.now c.requires.tiers.few c.requires.known

pub use_legs-requires-clause-fit : goal.use_legs-requires-clause-fit
use_legs-requires-clause-fit c =
    legs_fit c.args.direction c.args.legs.now c.args.rests.now _ c.requires.small
    (c.spreads_formed-formed.ensures ∙ ap spreads_formed (rooms_are c.args.direction c.args.tiers.now c.args.rests.now c.args.sums.now
    c.requires.sums c.args.legs.now c.requires.known))

pub returns-then-formed-gt0-clause-formed : goal.returns-then-formed-gt0-clause-formed
returns-then-formed-gt0-clause-formed c =
    c.spreads_formed-formed.ensures ∙ ap spreads_formed (rooms_are c.args.direction c.args.tiers.now c.args.rests.now c.args.sums.now
    c.requires.sums c.args.legs.now c.requires.known)

pub returns-then-formed-gt0-clause-rise : goal.returns-then-formed-gt0-clause-rise
returns-then-formed-gt0-clause-rise c =
    rw c.use_legs.ensures.rests (legs_rise c.args.direction c.spreads_formed-formed.result (months_in c.args.legs.now)
    c.args.rests.now c.requires.rise)

pub returns-then-formed-gt0-clause-less : goal.returns-then-formed-gt0-clause-less
returns-then-formed-gt0-clause-less c =
    rw (c.use_legs.ensures.rests, returns-then-formed-gt0-clause-formed c)
    (formed_falls c.args.direction (months_in c.args.legs.now) c.args.rests.now c.requires.rise
    (subst (λ n. 0 < n) (sym (length-map c.args.legs.now (λ leg. leg.months))) c.requires.legs)
    (All-map (λ leg. 0 < leg.ratio) (λ leg. leg.months) c.args.legs.now c.requires.ratios))

pub returns-then-formed-gt0-clause-shrinks : goal.returns-then-formed-gt0-clause-shrinks
returns-then-formed-gt0-clause-shrinks c months h =
    rw c.use_legs.ensures.rests (legs_shrink c.args.direction c.spreads_formed-formed.result months (months_in c.args.legs.now)
    c.args.rests.now h)

pub returns-else-formed-gt0-clause-formed : goal.returns-else-formed-gt0-clause-formed
returns-else-formed-gt0-clause-formed c =
    c.spreads_formed-formed.ensures ∙ ap spreads_formed (rooms_are c.args.direction c.args.tiers.now c.args.rests.now c.args.sums.now
    c.requires.sums c.args.legs.now c.requires.known)

pub returns-else-formed-gt0-clause-rests : goal.returns-else-formed-gt0-clause-rests
returns-else-formed-gt0-clause-rests c =
    sym (legs_none c.args.direction c.spreads_formed-formed.result (months_in c.args.legs.now) c.args.rests.now (omega arith))
