-- The loops over an account's commodities and over spreads compute what the method defines.
use Rattle.std.proofs.Common.{◌≡◌, ℕ, ◌-◌, ◌<◌, List, length, map, get_or, sym, ap, ◌∙◌, arith, zero-add, []}
use Rattle.std.specs.Prelude.{fold, option_map, pos, unwrap_or}
use Rattle.std.proofs.lemmas.List.{append-nil, get_or-map}
use Rattle.std.proofs.lemmas.List.FromFn.{get_or-map-range_with_len}
use Rattle.std.proofs.lemmas.Option.{slice_get-get_or, unwrap_or-slice_get}
use Rattle.span_tables.specs.Tables.{commodity_id, AcceptedTables, inters_of}
use Rattle.span_tables.specs.Net.{HeldContract, held_of}
use Rattle.span_tables.specs.declared.portfolios.Holding.{Holding}
use Rattle.span_tables.specs.declared.records.Commodity.{Commodity}
use Rattle.span_tables.specs.declared.records.Inter.{Inter}
use Rattle.span_tables.specs.declared.records.Intra.{Intra}
use Rattle.span_tables.specs.declared.sides.MarketSide.{MarketSide}
use Rattle.spread_stage.specs.Spreads.{TierRests, after_spreads, spread_both_ways, unspread}
use Rattle.spread_stage.specs.declared.months.MonthUnits.{MonthUnits}
use Rattle.inter_credit.specs.Credits.{after_inter_spreads, inter_both_ways, state_after, unspread_state, state_at}
use Rattle.inter_credit.specs.declared.commodity_state.CommodityState.{CommodityState}
use Rattle.inter_credit.proofs.KeptLemmas.{kept}
use Rattle.plan_ir.specs.Figures.{deltas_at, held_at, inter_states, intras_at, state_of, loaded_states, no_commodity, tiers_at}
use Rattle.plan_compiler.specs.Meaning.{states_loaded}

module _ (t : AcceptedTables) (holdings : List Holding) where
  -- the held contracts of each commodity are at its index
  pub held_read : (c : ℕ) (d : List HeldContract) → c < length t.commodities
      → get_or (map (λ x. held_of t.contracts holdings x.id) t.commodities) c d ≡ held_at t holdings c
  held_read c d lt =
      let id : commodity_id t c ≡ (get_or t.commodities c no_commodity).id =
      ap (λ o. unwrap_or (option_map (λ (x : Commodity). x.id) o) []) (slice_get-get_or t.commodities c no_commodity lt) in
      get_or-map (λ (x : Commodity). held_of t.contracts holdings x.id) t.commodities c no_commodity d lt
      ∙ sym (ap (held_of t.contracts holdings) id)

  -- the months after the spreads of a commodity
  pub tiers_are : (c : ℕ) (months : List MonthUnits) (begun tiers : TierRests) (spreads : List Intra) → months ≡ deltas_at t holdings c
      → begun ≡ unspread months → tiers ≡ fold spread_both_ways begun spreads → spreads ≡ intras_at t c → tiers ≡ tiers_at t holdings c
  unfolding after_spreads
  tiers_are c months begun tiers spreads m b after s = after ∙ (λ k. fold spread_both_ways ((b ∙ ap unspread m) k) (s k))

  -- all commodities are loaded
  pub loaded_whole : states_loaded t holdings (length t.commodities) ≡ loaded_states t holdings
  loaded_whole =
      let gone : length t.commodities - length t.commodities ≡ 0 = omega arith in
      rw gone (append-nil (loaded_states t holdings))

  -- the state that was loaded for a commodity
  pub loaded_at : (c : ℕ) → c < length t.commodities → state_at (loaded_states t holdings) c ≡ state_of t holdings c
  loaded_at c lt =
      let none = unspread_state (pos 0) 0 in
      unwrap_or-slice_get (loaded_states t holdings) c none
      ∙ get_or-map-range_with_len (state_of t holdings) 0 (length t.commodities) c c none lt (zero-add c)

  -- the commodities after all intercommodity spreads
  pub states_are : (states state : List CommodityState) (spreads : List Inter) → states ≡ fold inter_both_ways state spreads
      → state ≡ loaded_states t holdings → spreads ≡ inters_of t → states ≡ inter_states t holdings
  unfolding inter_states after_inter_spreads
  states_are states state spreads after before all =
      after ∙ ap (λ s. fold inter_both_ways s spreads) before ∙ ap (fold inter_both_ways (loaded_states t holdings)) all

  -- a property that using a part of a remaining delta does not change is the same after all intercommodity spreads
  pub kept_at : {A : Type 0} (of : CommodityState → A)
      → ((on : MarketSide) (used bp : ℕ) (state : CommodityState) → of (state_after on used bp state) ≡ of state)
      → (c : ℕ) → c < length t.commodities → of (state_at (inter_states t holdings) c) ≡ of (state_of t holdings c)
  unfolding inter_states after_inter_spreads
  kept_at of keeps c lt = kept of keeps (inters_of t) (loaded_states t holdings) c ∙ ap of (loaded_at c lt)
