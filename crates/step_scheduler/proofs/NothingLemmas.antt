-- A commodity that is not held.
use Rattle.std.proofs.Common.{◌≡◌, ◌<◌, ℕ, List, [], length, refl, ap, ◌∙◌}
use Rattle.std.specs.Prelude.{None, Option, Some, nat_abs, option_map, pos, slice_get, unwrap_or}
use Rattle.span_tables.specs.Tables.{AcceptedTables}
use Rattle.span_tables.specs.declared.portfolios.Holding.{Holding}
use Rattle.scan_risk.specs.Scenarios.{scan_of, scenario_sums}
use Rattle.spread_stage.specs.Charges.{delivery_charge, intra_charge}
use Rattle.spread_stage.specs.Deltas.{month_deltas, net_delta}
use Rattle.spread_stage.specs.Spreads.{after_spreads, unspread}
use Rattle.spread_stage.proofs.ClosedLemmas.{after_spreads_of_nothing, delivery_of_nothing}
use Rattle.inter_credit.specs.Credits.{credit_of, unspread_state, credit_at, state_at}
use Rattle.inter_credit.specs.OptionValue.{net_value_of}
use Rattle.inter_credit.specs.Requirement.{minimum_of, requirement_of}
use Rattle.inter_credit.specs.declared.commodity_state.CommodityState.{CommodityState}
use Rattle.inter_credit.proofs.CreditLaws.{credit_zero}
use Rattle.plan_ir.specs.Figures.{commodity_at, deltas_at, delivery_at, figures_from, figures_of, held_at, inter_states}
use Rattle.plan_ir.specs.Figures.{intras_at, state_of, minimum_at, net_value_at, scan_at, spots_at, tiers_at}
use Rattle.plan_ir.specs.Values.{no_figures, no_scan}
use Rattle.plan_ir.proofs.NothingLemmas.{minimum_of_nothing, month_deltas_of_nothing, value_of_nothing}
use Rattle.plan_compiler.proofs.StageLemmas.{kept_at}

scan_of_nothing : scan_of (scenario_sums []) ≡ no_scan
unfolding scan_of scenario_sums
scan_of_nothing = refl

-- a state without net delta earns no credit
credit_read : (o : Option CommodityState) → (unwrap_or o (unspread_state (pos 0) 0)).net ≡ pos 0
    → unwrap_or (option_map credit_of o) 0 ≡ 0
credit_read None e = refl
credit_read (Some state) e = credit_zero state (ap nat_abs e)

-- the figures of a commodity without scan, charges, minimum and net delta
figures_from_nothing : (states : List CommodityState) (c : ℕ) → (state_at states c).net ≡ pos 0
    → figures_from no_scan 0 (pos 0) (pos 0) states c ≡ no_figures
unfolding intra_charge requirement_of
figures_from_nothing states c no_net =
    let no_credit : credit_at states c ≡ 0 = credit_read (slice_get states c) no_net in
    simp (no_credit, no_net)

module _ (t : AcceptedTables) (holdings : List Holding) (c : ℕ) (none : held_at t holdings c ≡ []) where
  no_months : deltas_at t holdings c ≡ []
  no_months = ap month_deltas none ∙ month_deltas_of_nothing

  nothing_scanned : scan_at t holdings c ≡ no_scan
  nothing_scanned = ap (λ hs. scan_of (scenario_sums hs)) none ∙ scan_of_nothing

  no_tiers : tiers_at t holdings c ≡ unspread []
  no_tiers = ap (after_spreads (intras_at t c)) no_months ∙ after_spreads_of_nothing (intras_at t c)

  nothing_delivered : delivery_at t holdings c ≡ 0
  nothing_delivered = (λ k. delivery_charge (no_months k) (no_tiers k).rests (spots_at t c)) ∙ delivery_of_nothing (spots_at t c)

  no_minimum : minimum_at t holdings c ≡ 0
  no_minimum =
      ap (minimum_of (commodity_at t c).minimum_rate (commodity_at t c).method) none
      ∙ minimum_of_nothing (commodity_at t c).minimum_rate (commodity_at t c).method

  -- the state that is loaded for a commodity that is not held is empty
  pub no_state : state_of t holdings c ≡ unspread_state (pos 0) 0
  no_state = λ k. unspread_state (net_delta (no_months k)) (nothing_scanned k).price2

  -- a commodity that is not held adds nothing to the option value
  pub no_value : net_value_at t holdings c ≡ pos 0
  no_value = ap net_value_of none ∙ value_of_nothing

  no_net : c < length t.commodities → (state_at (inter_states t holdings) c).net ≡ pos 0
  no_net lt =
      kept_at t holdings (λ state. state.net) (λ on used bp state. refl) c lt ∙ ap (λ (state : CommodityState). state.net) no_state

  -- the figures of a commodity that is not held are `no_figures`
  pub figures_of_nothing : c < length t.commodities → figures_of t holdings c ≡ no_figures
  unfolding figures_of
  figures_of_nothing lt =
      (λ k. figures_from (nothing_scanned k) (no_tiers k).charge (pos (nothing_delivered k)) (pos (no_minimum k))
      (inter_states t holdings) c)
      ∙ figures_from_nothing (inter_states t holdings) c (no_net lt)
