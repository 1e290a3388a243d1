use Rattle.std.proofs.Common.{◌≡◌, ◌<◌, ◌≤◌, length, get_or, slice_set, ap, ◌∙◌, arith}
use Rattle.scan_risk.specs.Scenarios.{scan_of, scenario_sums}
use Rattle.spread_stage.specs.Deltas.{month_deltas, net_delta}
use Rattle.inter_credit.specs.Credits.{unspread_state}
use Rattle.plan_ir.specs.Figures.{held_at, state_of}
use Rattle.plan_compiler.specs.Meaning.{states_loaded}
use Rattle.plan_compiler.proofs.Meanings.{load_more}
use Rattle.plan_compiler.proofs.Taken.{length_partly, not_loaded, unspread}
use Rattle.plan_compiler.proofs.StageLemmas.{held_read}
use Rattle.reasons.proofs.stages.loaded_states.Goals as goal

pub load-requires-clause-commodity : goal.load-requires-clause-commodity
load-requires-clause-commodity c =
    let t = c.args.tables.now in
    let count = ap length c.commodities-count.ensures.value in
    let lt = c.loop-commodity-test.true in
    let long = length_partly t (c.args.portfolio.now).holdings c.commodities-count.ensures.limits c.known.ensures
    c.requires.fits c.loop-commodity.commodity (omega (arith, count, lt)) in
    omega (arith, count, lt, long, ap length c.loop-commodity.invariant)

pub load-requires-clause-not_loaded : goal.load-requires-clause-not_loaded
load-requires-clause-not_loaded c =
    let count = ap length c.commodities-count.ensures.value in
    rw c.loop-commodity.invariant
    (not_loaded c.args.tables.now (c.args.portfolio.now).holdings c.commodities-count.ensures.limits c.known.ensures
    c.requires.fits c.loop-commodity.commodity (omega (arith, count, c.loop-commodity-test.true)))

pub load-requires-clause-unspread : goal.load-requires-clause-unspread
load-requires-clause-unspread c =
    rw c.loop-commodity.invariant
    (unspread c.args.tables.now (c.args.portfolio.now).holdings c.commodities-count.ensures.limits c.known.ensures
    c.requires.fits c.loop-commodity.commodity)

pub loop-commodity-preserved : goal.loop-commodity-preserved
loop-commodity-preserved c =
    let t = c.args.tables.now in
    let holdings = (c.args.portfolio.now).holdings in
    let i = c.loop-commodity.commodity in
    let count = ap length c.commodities-count.ensures.value in
    let lt : i < length t.commodities = omega (arith, count, c.loop-commodity-test.true) in
    let of_i = c.index-held-commodity.result in
    let held = c.as_held-of_commodity.result in
    let held_is : held ≡ held_at t holdings i =
    c.as_held-of_commodity.ensures ∙ (c.index-held-commodity.is ∙ ap (λ hs. get_or hs i of_i) c.requires.held
    ∙ held_read t holdings i of_i lt) in
    let net_is : c.net.result ≡ net_delta (month_deltas held) = c.net.ensures.value ∙ ap net_delta c.in_ok-months.ensures in
    let price_is : c.scan-scan.result.price2 ≡ (scan_of (scenario_sums held)).price2 =
    ap (λ s. s.price2) (c.scan-scan.ensures.value ∙ ap scan_of c.sums.ensures.value) in
    let state_is : unspread_state c.net.result c.scan-scan.result.price2 ≡ state_of t holdings i =
    (λ k. unspread_state (net_is k) (price_is k))
    ∙ ap (λ h. unspread_state (net_delta (month_deltas h)) (scan_of (scenario_sums h)).price2) held_is in
    c.load.ensures.value
    ∙ ap (λ ls. slice_set ls i (unspread_state c.net.result c.scan-scan.result.price2)) c.loop-commodity.invariant
    ∙ ap (slice_set (states_loaded t holdings i) i) state_is ∙ load_more t holdings i lt

pub returns-clause-long : goal.returns-clause-long
returns-clause-long c =
    let t = c.args.tables.now in
    let count = ap length c.commodities-count.ensures.value in
    let le : c.loop-commodity.commodity ≤ length t.commodities = omega (arith, count, c.loop-commodity.auto.commodity-end) in
    ap length c.loop-commodity.invariant
    ∙ length_partly t (c.args.portfolio.now).holdings c.commodities-count.ensures.limits c.known.ensures c.requires.fits
    c.loop-commodity.commodity le
