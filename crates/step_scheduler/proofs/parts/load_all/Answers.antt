use Rattle.std.proofs.Common.{length, ap, ◌∙◌, ◌+◌, arith, pos, replicate}
use Rattle.std.proofs.Math.Nat.{sub-zero}
use Rattle.inter_credit.specs.Credits.{unspread_state}
use Rattle.plan_compiler.proofs.StageLemmas.{loaded_whole}
use Rattle.plan_compiler.proofs.Taken.{length_partly}
use Rattle.step_scheduler.proofs.HeldLemmas.{next_part, no_part}
use Rattle.step_scheduler.proofs.PartBounds.{can_be_loaded}
use Rattle.step_scheduler.proofs.PassedOver.{states_over, loaded_more}
use Rattle.step_scheduler.proofs.parts.load_all.Goals as goal

pub loop-part-init : goal.loop-part-init
loop-part-init c = (
  0,
  c.requires.parts,
  rw sub-zero (c.in_ok-restart.ensures ∙ ap (λ n. replicate n (unspread_state (pos 0) 0)) (ap length c.commodities.ensures.value)),
)

pub load_part-requires : goal.load_part-requires
load_part-requires c =
    let here = next_part _ _ c.args.parts.now c.loop-part.part-index c.loop-part.invariant.0 c.part-item.result c.loop-part-test.true
    c.part-item.is c.loop-part.invariant.1 in
    can_be_loaded _ _ c.known.ensures c.known-2.ensures c.requires.fits c.part-item.result here.1 _ _
    here.0 c.loop-part.invariant.2

pub loop-part-preserved : goal.loop-part-preserved
loop-part-preserved c =
    let here = next_part _ _ c.args.parts.now c.loop-part.part-index c.loop-part.invariant.0 c.part-item.result c.loop-part-test.true
    c.part-item.is c.loop-part.invariant.1 in (
      c.part-item.result.commodity + 1,
      here.2,
      loaded_more _ _ c.part-item.result _ _ _ here.0 here.1 c.loop-part.invariant.2 c.load_part.ensures,
    )

pub returns-clause-value : goal.returns-clause-value
returns-clause-value c =
    let t = c.args.tables.now in
    let holdings = (c.args.portfolio.now).holdings in
    let end = no_part t holdings c.args.parts.now c.loop-part.part-index c.loop-part.invariant.0 c.loop-part-test.false
    c.loop-part.invariant.1 in
    c.loop-part.invariant.2 ∙ states_over t holdings c.loop-part.invariant.0 (length t.commodities) end.behind (omega arith) end.none
    ∙ loaded_whole t holdings

pub returns-clause-long : goal.returns-clause-long
returns-clause-long c =
    let end = no_part _ _ c.args.parts.now c.loop-part.part-index c.loop-part.invariant.0 c.loop-part-test.false c.loop-part.invariant.1 in
    ap length c.loop-part.invariant.2
    ∙ length_partly _ _ c.known.ensures c.known-2.ensures c.requires.fits _ end.behind
