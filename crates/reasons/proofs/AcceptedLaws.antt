-- For accepted files, the values in the lines of a commodity are within limits.
use Rattle.std.proofs.Common.{◌≡◌, ℕ, ◌+◌, ◌-◌, ◌*◌, ◌%◌, ◌<◌, ◌≤◌, Bool, true, false, cond, List, [], ◌∷◌, length, refl, arith}
use Rattle.std.proofs.Common.{◌^◌, ap, get_or, nat_abs}
use Rattle.std.specs.Prelude.{All, None, Some, ℤ, pos, ◌==◌, nat_lt, unwrap_or}
use Rattle.std.specs.List.{position_or_len, range_with_len}
use Rattle.std.proofs.Math.Nat.{mul-le-mul_right}
use Rattle.std.proofs.lemmas.Bool.Decides.{nat_tests}
use Rattle.std.proofs.lemmas.List.FromFn.{get_or-range_with_len, length-range_with_len}
use Rattle.std.proofs.lemmas.List.Elements.{All-cons, All-nil}
use Rattle.span_tables.specs.Holdings.{AreHeld}
use Rattle.span_tables.specs.Net.{HeldContract}
use Rattle.span_tables.specs.Tables.{AcceptedTables, commodity_id, inters_of}
use Rattle.span_tables.specs.declared.limits.TheConstants.{MAX_COMMODITIES, MAX_HELD, MAX_NET, MAX_RATE, MAX_SUM, MAX_UNITS}
use Rattle.span_tables.specs.declared.portfolios.Holding.{Holding}
use Rattle.span_tables.specs.declared.records.MinimumMethod.TheVariants as method
use Rattle.scan_risk.specs.Scenarios.{active_scenario, is_largest, paired_scenario, scenario_sums}
use Rattle.span_tables.proofs.HeldBounds.{int_sum_size}
use Rattle.scan_risk.proofs.ScanBounds.{sums_small}
use Rattle.spread_stage.specs.Charges.{intra_charge}
use Rattle.spread_stage.specs.Spreads.{unspread}
use Rattle.spread_stage.proofs.SpreadBounds.{intra_small, unspread_are}
use Rattle.spread_stage.proofs.FallLemmas.{spreads_shrink}
use Rattle.inter_credit.specs.Credits.{credit_at, state_at}
use Rattle.inter_credit.specs.Requirement.{is_call, is_put, minimum_of, short_count}
use Rattle.inter_credit.specs.near.CommodityStates.{IsCommodityState}
use Rattle.inter_credit.specs.declared.commodity_state.CommodityState.{CommodityState}
use Rattle.inter_credit.specs.declared.option_value.TheConstants.{MAX_NET_VALUE}
use Rattle.inter_credit.proofs.CreditBounds.{minimum_small, requirement_small, each_state, parts_size}
use Rattle.plan_ir.specs.Figures.{deltas_at, delivery_at, figures_of, held_at, inter_states, intras_at, loaded_states, minimum_at}
use Rattle.plan_ir.specs.Figures.{net_value_at, numbers_of, scan_at, spots_at, tiers_at, total_to, value_to}
use Rattle.plan_ir.specs.declared.figures.TheConstants.{MAX_REQUIREMENT}
use Rattle.plan_ir.proofs.FigureBounds.{credit_at_small, delivery_at_small, minimum_at_small, net_value_at_small, risk_at_small}
use Rattle.plan_ir.proofs.FigureBounds.{deltas_at_are, held_at_are, length-loaded_states, loaded_are, states_are, tiers_at_are}
use Rattle.reasons.specs.Laws.{AreAccepted}
use Rattle.reasons.specs.Reasons.{inters_shown_at, intras_shown_at, months_shown_at, spots_shown_at, state_after_all}
use Rattle.reasons.proofs.FigureLaws.{active_shown}
use Rattle.reasons.proofs.SmallLaws.{AreSmallRests, IsSmallInter, IsSmallIntra, IsSmallMonth, IsSmallSpot, inters_small, intras_small}
use Rattle.reasons.proofs.SmallLaws.{months_small, rests_are, spots_small}
use Rattle.scan_risk.proofs.SumLemmas.{sixteen_sums}

-- ---- scenarios

active_if : (b : Bool) (a n : ℕ) → nat_lt a n ≡ b → unwrap_or (cond b (Some a) None) 0 ≤ n
active_if true a n e = let lt : a < n = grind (arith, nat_tests, e) in omega (arith, lt)
active_if false a n e = omega arith

-- the active scenario is at most one more than the number of sums, and the paired scenario at most one more than its
-- scenario
pub active_few : (sums : List ℤ) → active_scenario sums ≤ length sums + 1
active_few sums =
    let at = active_if (nat_lt (position_or_len (is_largest sums) sums) (length sums)) (position_or_len (is_largest sums) sums)
    (length sums) refl in
    omega (arith, at)

paired_if : (b c : Bool) (s : ℕ) → cond b s (cond c (s + 1) (s - 1)) ≤ s + 1
paired_if true c s = omega arith
paired_if false true s = omega arith
paired_if false false s = omega arith

pub paired_few : (s : ℕ) → paired_scenario s ≤ s + 1
paired_few s = paired_if (nat_lt 14 s) (s % 2 == 1) s

-- ---- states

-- the residual delta of a commodity is no larger than its net delta
rest_small : (state : CommodityState) → IsCommodityState state → nat_abs state.rest ≤ MAX_UNITS
rest_small state is =
    omega (arith, parts_size state.rest, parts_size state.net, is.rest.long, is.rest.short, is.net)

-- the number of short calls and short puts together is within its limit
counts_small : (held : List HeldContract) → AreHeld held
    → short_count is_call held + short_count is_put held ≤ MAX_RATE * (MAX_HELD * MAX_NET)
unfolding minimum_of
counts_small held are = let one = minimum_small 1 method.Sum held (omega arith) are in omega (arith, one)

module _ (t : AcceptedTables) (holdings : List Holding) (ok : AreAccepted t holdings) (c : ℕ) where
  pub held_are : AreHeld (held_at t holdings c)
  held_are = held_at_are t holdings ok.limits ok.portfolio ok.known c

  pub sums_are_small : All (λ s. nat_abs s ≤ MAX_SUM) (scenario_sums (held_at t holdings c))
  sums_are_small = sums_small (held_at t holdings c) held_are

  pub months_are_small : All IsSmallMonth (months_shown_at t holdings c)
  months_are_small =
      let deltas = deltas_at_are t holdings ok.limits ok.portfolio ok.known c in
      let rests = rests_are (tiers_at t holdings c) (tiers_at_are t holdings ok.limits ok.portfolio ok.known c) in
      months_small (deltas_at t holdings c) (tiers_at t holdings c).rests deltas.small rests.small

  pub intras_are_small : All IsSmallIntra (intras_shown_at t holdings c)
  intras_are_small =
      intras_small (intras_at t c) (unspread (deltas_at t holdings c)) (ok.limits.intras_in_range (commodity_id t c))
      (unspread_are (deltas_at t holdings c) (deltas_at_are t holdings ok.limits ok.portfolio ok.known c))

  pub spots_are_small : All IsSmallSpot (spots_shown_at t holdings c)
  spots_are_small =
      spots_small (deltas_at t holdings c) (tiers_at t holdings c).rests
      (deltas_at_are t holdings ok.limits ok.portfolio ok.known c).small (spreads_shrink (intras_at t c) (deltas_at t holdings c))
      (spots_at t c) (ok.limits.spots_in_range (commodity_id t c))

  loaded_small : AreSmallRests (loaded_states t holdings)
  loaded_small k =
      rest_small (state_at (loaded_states t holdings) k)
      (each_state (loaded_states t holdings) (loaded_are t holdings ok.limits ok.portfolio ok.known) k)

  pub inters_are_small : All IsSmallInter (inters_shown_at t holdings c)
  inters_are_small =
      inters_small (length t.commodities) c (inters_of t) (loaded_states t holdings)
      (length-loaded_states t holdings ok.limits ok.portfolio ok.known) ok.limits.inters_in_range loaded_small

  pub state_is : IsCommodityState (state_after_all t holdings c)
  state_is = each_state (inter_states t holdings) (states_are t holdings ok.limits ok.portfolio ok.known) c

  pub shorts_are_small : short_count is_call (held_at t holdings c) + short_count is_put (held_at t holdings c)
      ≤ MAX_RATE * (MAX_HELD * MAX_NET)
  shorts_are_small = counts_small (held_at t holdings c) held_are

  -- ---- figures

  requirement_is_small : c < length t.commodities → nat_abs (figures_of t holdings c).requirement ≤ MAX_REQUIREMENT
  unfolding figures_of
  requirement_is_small lt =
      let intra = intra_small (tiers_at t holdings c) (tiers_at_are t holdings ok.limits ok.portfolio ok.known c) in
      let parts = requirement_small (scan_at t holdings c).risk (pos (intra_charge (tiers_at t holdings c).charge))
      (pos (delivery_at t holdings c)) (pos (credit_at (inter_states t holdings) c)) (pos (minimum_at t holdings c)) in
      omega (
        arith,
        parts,
        intra,
        risk_at_small t holdings ok.limits ok.portfolio ok.known c,
        delivery_at_small t holdings ok.limits ok.portfolio ok.known c,
        credit_at_small t holdings ok.limits ok.portfolio ok.known c,
        minimum_at_small t holdings ok.limits ok.portfolio ok.known c lt,
      )

  active_is_few : (figures_of t holdings c).active ≤ 17
  active_is_few =
      let sums = scenario_sums (held_at t holdings c) in
      omega (arith, active_shown t holdings c, active_few sums, sixteen_sums (held_at t holdings c))

  pub figures_are_small : c < length t.commodities → All (λ z. nat_abs z < 10 ^ 64) (numbers_of (figures_of t holdings c))
  unfolding figures_of
  figures_are_small lt =
      let Few : ℤ → Type 0 = λ z. nat_abs z < 10 ^ 64 in
      let f = figures_of t holdings c in
      let scan = risk_at_small t holdings ok.limits ok.portfolio ok.known c in
      let active : f.active ≤ 17 = active_is_few in
      let intra = intra_small (tiers_at t holdings c) (tiers_at_are t holdings ok.limits ok.portfolio ok.known c) in
      let delivery = delivery_at_small t holdings ok.limits ok.portfolio ok.known c in
      let credit = credit_at_small t holdings ok.limits ok.portfolio ok.known c in
      let minimum = minimum_at_small t holdings ok.limits ok.portfolio ok.known c lt in
      let requirement : nat_abs f.requirement ≤ MAX_REQUIREMENT = requirement_is_small lt in
      All-cons Few f.scan (pos f.active ∷ f.intra ∷ f.delivery ∷ f.credit ∷ f.minimum ∷ f.requirement ∷ []) (omega (arith, scan))
      (All-cons Few (pos f.active) (f.intra ∷ f.delivery ∷ f.credit ∷ f.minimum ∷ f.requirement ∷ []) (omega (arith, active))
      (All-cons Few f.intra (f.delivery ∷ f.credit ∷ f.minimum ∷ f.requirement ∷ []) (omega (arith, intra))
      (All-cons Few f.delivery (f.credit ∷ f.minimum ∷ f.requirement ∷ []) (omega (arith, delivery))
      (All-cons Few f.credit (f.minimum ∷ f.requirement ∷ []) (omega (arith, credit))
      (All-cons Few f.minimum (f.requirement ∷ []) (omega (arith, minimum))
      (All-cons Few f.requirement [] (omega (arith, requirement)) (All-nil Few)))))))

-- the total of an account is below 10^63
pub total_is_small : (t : AcceptedTables) (holdings : List Holding) → AreAccepted t holdings
    → nat_abs (total_to t holdings (length t.commodities)) < 10 ^ 63
unfolding total_to
total_is_small t holdings ok =
    let n = length t.commodities in
    let long = length-range_with_len 0 n in
    let all = int_sum_size (λ c. (figures_of t holdings c).requirement) MAX_REQUIREMENT (range_with_len 0 n)
    (λ k d lt. let at = get_or-range_with_len 0 n k d (omega (arith, lt, long)) in
    requirement_is_small t holdings ok (get_or (range_with_len 0 n) k d) (omega (arith, at, lt, long))) in
    let few : n * MAX_REQUIREMENT ≤ MAX_COMMODITIES * MAX_REQUIREMENT = mul-le-mul_right MAX_REQUIREMENT ok.limits.commodities in
    let same : length (range_with_len 0 n) * MAX_REQUIREMENT ≡ n * MAX_REQUIREMENT = ap (λ k. k * MAX_REQUIREMENT) long in
    omega (arith, all, same, few)

-- the option value of an account is below 10^63
pub value_is_small : (t : AcceptedTables) (holdings : List Holding) → AreAccepted t holdings
    → nat_abs (value_to t holdings (length t.commodities)) < 10 ^ 63
unfolding value_to
value_is_small t holdings ok =
    let n = length t.commodities in
    let long = length-range_with_len 0 n in
    let all = int_sum_size (net_value_at t holdings) MAX_NET_VALUE (range_with_len 0 n)
    (λ k d lt. net_value_at_small t holdings ok.limits ok.portfolio ok.known (get_or (range_with_len 0 n) k d)) in
    let few : n * MAX_NET_VALUE ≤ MAX_COMMODITIES * MAX_NET_VALUE = mul-le-mul_right MAX_NET_VALUE ok.limits.commodities in
    let same : length (range_with_len 0 n) * MAX_NET_VALUE ≡ n * MAX_NET_VALUE = ap (λ k. k * MAX_NET_VALUE) long in
    omega (arith, all, same, few)
