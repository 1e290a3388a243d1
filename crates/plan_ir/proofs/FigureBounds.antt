-- Bounds on the figures and the total of an account under tables within their limits.
use Rattle.std.proofs.Common.{◌≡◌, ℤ, ℕ, ◌+◌, ◌*◌, ◌<◌, ◌≤◌, true, List, length, get_or, subst, sym, ◌∙◌, arith}
use Rattle.std.specs.Prelude.{pos, ◌+ℤ◌, All, nat_abs}
use Rattle.std.specs.List.{range_with_len}
use Rattle.std.proofs.Math.Nat.{mul-le-mul_right}
use Rattle.std.proofs.lemmas.List.Elements.{All-map}
use Rattle.std.proofs.lemmas.List.FromFn.{get_or-range_with_len, length-map-range_with_len, length-range_with_len}
use Rattle.span_money.specs.declared.amounts.TheConstants.{MAX_MONEY}
use Rattle.span_tables.specs.Accepted.{IsInter, IsWithinLimits}
use Rattle.span_tables.specs.Tables.{commodity_id, AcceptedTables, inters_of}
use Rattle.span_tables.specs.Holdings.{AreHeld, ArePortfolio, fits}
use Rattle.span_tables.specs.declared.limits.TheConstants.{MAX_COMMODITIES, MAX_HELD, MAX_NET, MAX_PRICE2, MAX_RATE, MAX_SUM}
use Rattle.span_tables.specs.declared.portfolios.Holding.{Holding}
use Rattle.span_tables.proofs.HeldBounds.{are_held_of, int_sum_size}
use Rattle.scan_risk.specs.Scenarios.{scenario_sums}
use Rattle.scan_risk.proofs.ScanBounds.{price2_small, risk_small, sums_small}
use Rattle.spread_stage.specs.Charges.{intra_charge}
use Rattle.spread_stage.specs.Months.{AreMonths, AreTierRests}
use Rattle.spread_stage.specs.declared.charges.TheConstants.{MAX_DELIVERY_CHARGE}
use Rattle.spread_stage.proofs.SpreadBounds.{delivery_small, intra_small, months_are, net_small, tiers_are}
use Rattle.spread_stage.proofs.FallLemmas.{spreads_shrink}
use Rattle.inter_credit.specs.near.CommodityStates.{IsCommodityState}
use Rattle.inter_credit.specs.Credits.{credit_at}
use Rattle.inter_credit.proofs.CreditBounds.{credit_small, length-after_inter_spreads, states_stay, minimum_small, requirement_small}
use Rattle.inter_credit.proofs.OpenLemmas.{loaded_state}
use Rattle.inter_credit.proofs.Sizes.{size-add}
use Rattle.inter_credit.proofs.ValueLemmas.{net_value_small}
use Rattle.inter_credit.specs.declared.option_value.TheConstants.{MAX_NET_VALUE}
use Rattle.plan_ir.specs.Figures.{commodity_at, delivery_at, deltas_at, figures_of, held_at, inter_states, intras_at, state_of}
use Rattle.plan_ir.specs.Figures.{loaded_states, minimum_at, net_value_at, scan_at, spots_at, tiers_at, total_to, value_to}
use Rattle.plan_ir.specs.declared.figures.TheConstants.{MAX_REQUIREMENT}

-- an account with holdings, under tables within their limits
module _ (t : AcceptedTables) (holdings : List Holding) (limits : IsWithinLimits t) (portfolio : ArePortfolio holdings)
    (known : fits (length t.contracts) holdings ≡ true) where
  -- ---- a commodity

  -- the held contracts of a commodity
  pub held_at_are : (c : ℕ) → AreHeld (held_at t holdings c)
  held_at_are c = are_held_of t holdings (commodity_id t c) limits portfolio known

  -- the scan risk of a commodity is within its limit
  pub risk_at_small : (c : ℕ) → nat_abs (scan_at t holdings c).risk ≤ MAX_SUM
  risk_at_small c = risk_small (scenario_sums (held_at t holdings c)) (sums_small (held_at t holdings c) (held_at_are c))

  pub price2_at_small : (c : ℕ) → (scan_at t holdings c).price2 ≤ MAX_PRICE2
  price2_at_small c = price2_small (scenario_sums (held_at t holdings c)) (sums_small (held_at t holdings c) (held_at_are c))

  -- the months of a commodity, before and after its spreads
  pub deltas_at_are : (c : ℕ) → AreMonths (deltas_at t holdings c)
  deltas_at_are c = months_are (held_at t holdings c) (held_at_are c)

  pub tiers_at_are : (c : ℕ) → AreTierRests (tiers_at t holdings c)
  tiers_at_are c = tiers_are (intras_at t c) (deltas_at t holdings c) (deltas_at_are c) (limits.intras_in_range (commodity_id t c))

  -- the delivery charge of a commodity
  pub delivery_at_small : (c : ℕ) → delivery_at t holdings c ≤ MAX_DELIVERY_CHARGE
  delivery_at_small c =
      delivery_small (deltas_at t holdings c) (tiers_at t holdings c).rests (spots_at t c) (deltas_at_are c)
      (spreads_shrink (intras_at t c) (deltas_at t holdings c)) (limits.few_spots (commodity_id t c))
      (limits.spots_in_range (commodity_id t c))

  -- the minimum of a commodity
  pub minimum_at_small : (c : ℕ) → c < length t.commodities → minimum_at t holdings c ≤ MAX_RATE * (MAX_HELD * MAX_NET)
  minimum_at_small c lt =
      minimum_small (commodity_at t c).minimum_rate (commodity_at t c).method (held_at t holdings c)
      (limits.minimum_rates c _ lt) (held_at_are c)

  -- the state of a commodity before any intercommodity spread
  pub state_of_is : (c : ℕ) → IsCommodityState (state_of t holdings c)
  state_of_is c = loaded_state _ _ (net_small (deltas_at t holdings c) (deltas_at_are c)) (price2_at_small c)

  -- ---- all commodities

  pub loaded_are : All IsCommodityState (loaded_states t holdings)
  loaded_are =
      All-map IsCommodityState (state_of t holdings) (range_with_len 0 (length t.commodities))
      (λ k d lt. state_of_is (get_or (range_with_len 0 (length t.commodities)) k d))

  pub length-loaded_states : length (loaded_states t holdings) ≡ length t.commodities
  length-loaded_states = length-map-range_with_len (state_of t holdings) 0 (length t.commodities)

  pub states_are : All IsCommodityState (inter_states t holdings)
  unfolding inter_states
  states_are =
      states_stay (inters_of t) (loaded_states t holdings) loaded_are
      (subst (λ n. All (IsInter n) (inters_of t)) (sym length-loaded_states) limits.inters_in_range)

  pub length-inter_states : length (inter_states t holdings) ≡ length t.commodities
  unfolding inter_states
  length-inter_states = length-after_inter_spreads (inters_of t) (loaded_states t holdings) ∙ length-loaded_states

  -- the credit of a commodity
  pub credit_at_small : (c : ℕ) → 2 * credit_at (inter_states t holdings) c ≤ MAX_PRICE2
  credit_at_small c = credit_small (inter_states t holdings) c states_are

  -- the requirement of a commodity
  requirement_at_small : (c : ℕ) → c < length t.commodities → nat_abs (figures_of t holdings c).requirement ≤ MAX_REQUIREMENT
  unfolding figures_of
  requirement_at_small c lt =
      let intra = intra_small (tiers_at t holdings c) (tiers_at_are c) in
      let parts = requirement_small (scan_at t holdings c).risk (pos (intra_charge (tiers_at t holdings c).charge))
      (pos (delivery_at t holdings c)) (pos (credit_at (inter_states t holdings) c)) (pos (minimum_at t holdings c)) in
      omega (arith, parts, intra, risk_at_small c, delivery_at_small c, credit_at_small c, minimum_at_small c lt)

  -- the sum of the requirements of the first commodities
  sum_to_small : (n : ℕ) → n ≤ length t.commodities → nat_abs (total_to t holdings n) ≤ n * MAX_REQUIREMENT
  unfolding total_to
  sum_to_small n le =
      let long = length-range_with_len 0 n in
      let all = int_sum_size (λ c. (figures_of t holdings c).requirement) MAX_REQUIREMENT (range_with_len 0 n)
      (λ k d lt. let at = get_or-range_with_len 0 n k d (omega (arith, lt, long)) in
      requirement_at_small (get_or (range_with_len 0 n) k d) (omega (arith, at, lt, long, le))) in
      omega (arith, all, long)

  -- the option value of a commodity
  pub net_value_at_small : (c : ℕ) → nat_abs (net_value_at t holdings c) ≤ MAX_NET_VALUE
  net_value_at_small c = net_value_small (held_at t holdings c) (held_at_are c)

  -- the sum of the option values of the first commodities
  value_to_small : (n : ℕ) → nat_abs (value_to t holdings n) ≤ n * MAX_NET_VALUE
  unfolding value_to
  value_to_small n =
      let all = int_sum_size (net_value_at t holdings) MAX_NET_VALUE (range_with_len 0 n)
      (λ k d lt. net_value_at_small (get_or (range_with_len 0 n) k d)) in
      omega (arith, all, length-range_with_len 0 n)

-- a sum over the commodities before a given one, plus the amount of that one, is an amount of money
next_is_money : (before next : ℤ) (c n m : ℕ) → nat_abs before ≤ c * m → nat_abs next ≤ m → c < n → n ≤ MAX_COMMODITIES
    → MAX_COMMODITIES * m ≤ MAX_MONEY → nat_abs (before +ℤ next) ≤ MAX_MONEY
next_is_money before next c n m small one lt few money =
    let fewer : c + 1 ≤ MAX_COMMODITIES = omega (arith, lt, few) in
    let all : (c + 1) * m ≤ MAX_COMMODITIES * m = mul-le-mul_right m fewer in
    let parts : (c + 1) * m ≡ c * m + m = omega arith in
    omega (arith, size-add before next, small, one, all, parts, money)

-- the total of the first commodities, plus the requirement of the next, is an amount of money
pub next_total_is_money : (t : AcceptedTables) (holdings : List Holding) (c : ℕ) → IsWithinLimits t → ArePortfolio holdings
    → fits (length t.contracts) holdings ≡ true → c < length t.commodities
    → nat_abs (total_to t holdings c +ℤ (figures_of t holdings c).requirement) ≤ MAX_MONEY
next_total_is_money t holdings c limits portfolio known lt =
    next_is_money (total_to t holdings c) (figures_of t holdings c).requirement c (length t.commodities) MAX_REQUIREMENT
    (sum_to_small t holdings limits portfolio known c (omega (arith, lt)))
    (requirement_at_small t holdings limits portfolio known c lt) lt limits.commodities (omega arith)

-- the option value of the first commodities, plus the option value of the next, is an amount of money
pub next_value_is_money : (t : AcceptedTables) (holdings : List Holding) (c : ℕ) → IsWithinLimits t → ArePortfolio holdings
    → fits (length t.contracts) holdings ≡ true → c < length t.commodities
    → nat_abs (value_to t holdings c +ℤ net_value_at t holdings c) ≤ MAX_MONEY
next_value_is_money t holdings c limits portfolio known lt =
    next_is_money (value_to t holdings c) (net_value_at t holdings c) c (length t.commodities) MAX_NET_VALUE
    (value_to_small t holdings limits portfolio known c)
    (net_value_at_small t holdings limits portfolio known c) lt limits.commodities (omega arith)
