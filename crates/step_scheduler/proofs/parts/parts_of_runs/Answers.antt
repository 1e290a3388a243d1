use Rattle.std.proofs.Common.{◌≡◌, ◌+◌, [], ◌∷◌, ◌++◌, sym, ap, subst, ◌∙◌, append_assoc, arith, refl}
use Rattle.std.specs.List.{slice_range}
use Rattle.std.proofs.lemmas.List.{append-nil, drop_all}
use Rattle.std.proofs.lemmas.List.Edits.{length-between}
use Rattle.span_tables.specs.Holdings.{AreHoldings}
use Rattle.span_tables.specs.Tables.{commodity_id}
use Rattle.span_tables.specs.near.Runs.{AreLeft}
use Rattle.spread_stage.specs.near.SetPlans.{IsPlan}
use Rattle.span_tables.proofs.HeldLemmas.{are_holdings}
use Rattle.span_tables.proofs.RunLemmas.{all_left, first_known, number_here, run_at}
use Rattle.step_scheduler.specs.near.Parts.{ArePartsFrom, IsNext}
use Rattle.step_scheduler.proofs.HeldLemmas.{next_of_run, no_run}
use Rattle.step_scheduler.proofs.parts.parts_of_runs.Goals as goal

pub loop-done-init : goal.loop-done-init
loop-done-init g c = record {
  inside = omega arith;
  left = (
    0,
    omega arith,
    all_left c.args.tables.now c.known.ensures (c.args.portfolio.now).holdings c.args.holdings.now c.requires.holdings,
    λ rest parts. rw c.clear.ensures.items parts,
  );
}

pub of-held-requires : goal.of-held-requires
of-held-requires g c =
    let t = c.args.tables.now in
    let hs = (c.args.portfolio.now).holdings in
    let sorted = c.args.holdings.now in
    let n = c.commodity_of-commodity.result in
    let before = c.loop-done.invariant.left in
    let end = c.end_of_run-end.ensures in
    let known = c.commodity_of-commodity.ensures.known
    (first_known t c.known.ensures hs sorted before.0 c.loop-done.done before.2 c.loop-done-test.true _) in
    let run = run_at t c.known.ensures hs sorted before.0 c.loop-done.done before.2 c.loop-done-test.true n c.end_of_run-end.result
    end.begins end.inside
    (λ d. number_here t sorted c.loop-done.done n n _ d c.loop-done-test.true c.commodity_of-commodity.ensures.value refl)
    end.same end.ends known in
    subst (AreHoldings t.contracts) (sym run.is) (are_holdings t hs (commodity_id t n) c.known.ensures c.known-2.ensures c.requires.fits)

pub part_of-requires-clause-commodity : goal.part_of-requires-clause-commodity
part_of-requires-clause-commodity g c =
    let before = c.loop-done.invariant.left in
    c.commodity_of-commodity.ensures.known
    (first_known c.args.tables.now c.known.ensures (c.args.portfolio.now).holdings c.args.holdings.now before.0 c.loop-done.done before.2
    c.loop-done-test.true _)

pub part_of-requires-clause-plan : goal.part_of-requires-clause-plan
part_of-requires-clause-plan g c =
    let t = c.args.tables.now in
    let n = c.commodity_of-commodity.result in
    let before = c.loop-done.invariant.left in
    let known = c.commodity_of-commodity.ensures.known
    (first_known t c.known.ensures (c.args.portfolio.now).holdings c.args.holdings.now before.0 c.loop-done.done before.2
    c.loop-done-test.true _) in
    subst (IsPlan t (commodity_id t n)) (sym c.index-plans-commodity.is) (c.requires.plans.each n known c.index-plans-commodity.result)

pub loop-done-preserved : goal.loop-done-preserved
loop-done-preserved g c =
    let t = c.args.tables.now in
    let hs = (c.args.portfolio.now).holdings in
    let sorted = c.args.holdings.now in
    let n = c.commodity_of-commodity.result in
    let before = c.loop-done.invariant.left in
    let end = c.end_of_run-end.ensures in
    let part = c.in_ok-part.part in
    let known = c.commodity_of-commodity.ensures.known
    (first_known t c.known.ensures hs sorted before.0 c.loop-done.done before.2 c.loop-done-test.true _) in
    let run = run_at t c.known.ensures hs sorted before.0 c.loop-done.done before.2 c.loop-done-test.true n c.end_of_run-end.result
    end.begins end.inside
    (λ d. number_here t sorted c.loop-done.done n n _ d c.loop-done-test.true c.commodity_of-commodity.ensures.value refl)
    end.same end.ends known in
    let long = length-between sorted c.loop-done.done c.end_of_run-end.result end.inside in
    let of_run = next_of_run t hs before.0 n (slice_range sorted c.loop-done.done c.end_of_run-end.result) _ c.requires.fits
    c.known.ensures c.known-2.ensures known (omega (arith, long, end.begins)) run in
    let number : part.commodity ≡ n = c.in_ok-part.ensures.commodity in
    let next : IsNext t hs before.0 part.commodity = subst (IsNext t hs before.0) (sym number) of_run.0 in
    record {
      inside = end.inside;
      left = (
        n + 1,
        omega (arith, known),
        run.after,
        λ rest parts.
            let from = subst (λ m. ArePartsFrom t hs (m + 1) rest) (sym number) parts in
            let pushed = c.in_ok-push.ensures.items ∙ ap (λ ps. ps ++ part ∷ []) c.part_of.ensures.parts in
            subst (ArePartsFrom t hs 0) (sym (ap (λ ps. ps ++ rest) pushed
            ∙ append_assoc c.loop-done.memory.parts.items (part ∷ []) rest))
            (before.3 (part ∷ rest) (next, c.in_ok-part.ensures.part hs (c.of-held.ensures ∙ of_run.1), from)),
      );
    }

pub returns : goal.returns
returns g c =
    let t = c.args.tables.now in
    let hs = (c.args.portfolio.now).holdings in
    let before = c.loop-done.invariant.left in
    let none = drop_all c.loop-done.done c.args.holdings.now c.loop-done-test.false in
    let end = no_run t hs before.0 c.known.ensures before.1 (subst (AreLeft t hs before.0) none before.2) in
    subst (ArePartsFrom t hs 0) (append-nil c.loop-done.memory.parts.items) (before.3 [] end)
