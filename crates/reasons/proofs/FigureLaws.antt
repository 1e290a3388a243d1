-- How the figures of a commodity follow from the lines of its explanation.
use Rattle.std.proofs.Common.{◌≡◌, ◌*◌, ℕ, List, refl, ap}
use Rattle.std.specs.Prelude.{None, Some, option_map, pos, slice_get, unwrap_or}
use Rattle.span_tables.specs.Tables.{AcceptedTables}
use Rattle.span_tables.specs.declared.portfolios.Holding.{Holding}
use Rattle.span_tables.specs.declared.records.MinimumMethod.{MinimumMethod}
use Rattle.span_tables.specs.declared.records.MinimumMethod.TheVariants as method
use Rattle.scan_risk.specs.Scenarios.{active_scenario, scan_of, scan_risk, scenario_sums}
use Rattle.span_tables.specs.Net.{HeldContract}
use Rattle.inter_credit.specs.Credits.{credit_of, unspread_state, credit_at, state_at}
use Rattle.inter_credit.specs.Requirement.{is_call, is_put, minimum_of, requirement_of, short_count, short_options}
use Rattle.inter_credit.specs.declared.commodity_state.CommodityState.{CommodityState}
use Rattle.plan_ir.specs.Figures.{commodity_at, figures_of, held_at, inter_states}
use Rattle.reasons.specs.Laws.{counted}
use Rattle.reasons.specs.Reasons.{state_after_all}

-- the credit at an index is the credit of the state at that index
credit_at-state : (states : List CommodityState) (c : ℕ) → credit_at states c ≡ credit_of (state_at states c)
unfolding credit_of
credit_at-state states c =
    elim (slice_get states c) as (λ o. unwrap_or (option_map credit_of o) 0 ≡ credit_of (unwrap_or o (unspread_state (pos 0) 0))) [
      | Some state ↦ refl
      | None ↦ refl
    ]

-- the count of short options follows from the numbers of short calls and short puts
counted_shown : (m : MinimumMethod) (held : List HeldContract)
    → short_options m held ≡ counted m (short_count is_call held) (short_count is_put held)
counted_shown method.Sum held = refl
counted_shown method.Max held = refl

module _ (t : AcceptedTables) (holdings : List Holding) (c : ℕ) where
  pub risk_shown : (figures_of t holdings c).scan ≡ scan_risk (scenario_sums (held_at t holdings c))
  unfolding figures_of scan_of
  risk_shown = refl

  pub active_shown : (figures_of t holdings c).active ≡ active_scenario (scenario_sums (held_at t holdings c))
  unfolding figures_of scan_of
  active_shown = refl

  pub credit_shown : (figures_of t holdings c).credit ≡ pos (credit_of (state_after_all t holdings c))
  unfolding figures_of
  credit_shown = ap pos (credit_at-state (inter_states t holdings) c)

  pub minimum_shown : (figures_of t holdings c).minimum
      ≡ pos ((commodity_at t c).minimum_rate
      * counted (commodity_at t c).method (short_count is_call (held_at t holdings c)) (short_count is_put (held_at t holdings c)))
  unfolding figures_of minimum_of
  minimum_shown =
      ap (λ n. pos ((commodity_at t c).minimum_rate * n)) (counted_shown (commodity_at t c).method (held_at t holdings c))

  pub requirement_shown : (figures_of t holdings c).requirement
      ≡ requirement_of (figures_of t holdings c).scan (figures_of t holdings c).intra (figures_of t holdings c).delivery
      (figures_of t holdings c).credit (figures_of t holdings c).minimum
  unfolding figures_of
  requirement_shown = refl
