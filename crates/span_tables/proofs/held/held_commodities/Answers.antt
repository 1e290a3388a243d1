use Rattle.std.proofs.Common.{◌≡◌, ◌∙◌, List, arith, false, length-set, refl, subst, take}
use Rattle.std.proofs.lemmas.Grind.{common_steps}
use Rattle.std.proofs.lemmas.List.{get_or-replicate}
use Rattle.span_tables.specs.declared.limits.TheConstants.{MAX_COMMODITIES}
use Rattle.span_tables.specs.declared.portfolios.Holding.{Holding}
use Rattle.span_tables.proofs.GatherLemmas.{known_holding}
use Rattle.span_tables.proofs.HeldFlags.{AreFlags, flags_after, flags_tell}
use Rattle.span_tables.proofs.held.held_commodities.Goals as goal

pub loop-holding-init : goal.loop-holding-init
loop-holding-init c = (
  refl,
  λ k below.
      get_or-replicate MAX_COMMODITIES k false false (omega (arith, below, c.known.ensures.commodities)),
)

pub loop-holding-preserved : goal.loop-holding-preserved
loop-holding-preserved c = (
  length-set _ _ _ ∙ c.loop-holding.invariant.0,
  flags_after c.args.tables.now c.known.ensures c.holdings-holding-items.result.now c.loop-holding.holding-index _ _
      c.loop-holding-test.true
      (known_holding _ _ _ _ _ c.holdings-holding-items.ensures.value c.loop-holding-test.true c.requires)
      c.commodity_of.ensures.value _
      (
      let known = c.commodity_of.ensures.known
      (known_holding _ _ _ _ _ c.holdings-holding-items.ensures.value c.loop-holding-test.true c.requires) in
      omega (arith, c.loop-holding.invariant.0, known, c.known.ensures.commodities)
      )
      c.loop-holding.invariant.1,
)

pub returns : goal.returns
returns c =
    let all : take c.loop-holding.holding-index c.holdings-holding-items.result.now ≡ c.args.portfolio.now.holdings =
    grind (arith, common_steps) in
    flags_tell c.args.tables.now c.args.portfolio.now.holdings c.loop-holding.held c.known.ensures
    c.holdings-holding-items.ensures.kept c.requires
    (subst (λ (hs : List Holding). AreFlags c.args.tables.now hs c.loop-holding.held) all c.loop-holding.invariant.1)
