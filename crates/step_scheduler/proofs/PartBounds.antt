-- Bounds on the values that a whole run has for a held commodity.
use Rattle.std.proofs.Common.{◌≡◌, ◌<◌, ◌≤◌, true, ℕ, List, length, ap, sym, subst, ◌∙◌, arith}
use Rattle.span_tables.specs.Accepted.{IsWithinLimits}
use Rattle.span_tables.specs.Holdings.{ArePortfolio, fits}
use Rattle.span_tables.specs.Tables.{AcceptedTables}
use Rattle.span_tables.specs.declared.portfolios.Holding.{Holding}
use Rattle.spread_stage.proofs.SpreadBounds.{net_small}
use Rattle.inter_credit.specs.States.{IsNotLoaded, IsUnspread}
use Rattle.inter_credit.specs.declared.commodity_state.CommodityState.{CommodityState}
use Rattle.plan_ir.specs.Figures.{deltas_at, inter_states}
use Rattle.plan_ir.proofs.FigureBounds.{deltas_at_are, delivery_at_small, minimum_at_small, price2_at_small, risk_at_small, tiers_at_are}
use Rattle.plan_ir.proofs.FigureBounds.{length-inter_states}
use Rattle.plan_compiler.specs.Meaning.{states_loaded}
use Rattle.plan_compiler.proofs.Taken.{length_partly, not_loaded, unspread}
use Rattle.step_scheduler.specs.declared.run_memory.Part.{Part}
use Rattle.step_scheduler.specs.near.Parts.{CanBeLoaded, HasState, IsNext, IsPart, IsSmall}
use Rattle.step_scheduler.proofs.PassedOver.{states_over}

-- an account with holdings, under tables within their limits
module _ (t : AcceptedTables) (holdings : List Holding) (limits : IsWithinLimits t) (portfolio : ArePortfolio holdings)
    (known : fits (length t.contracts) holdings ≡ true) (p : Part) (is : IsPart t holdings p) where
  small_part : p.commodity < length t.commodities → IsSmall p
  small_part lt =
      let risk = risk_at_small t holdings limits portfolio known p.commodity in
      let tiers = tiers_at_are t holdings limits portfolio known p.commodity in
      let delivery = delivery_at_small t holdings limits portfolio known p.commodity in
      let minimum = minimum_at_small t holdings limits portfolio known p.commodity lt in
      let deltas = deltas_at_are t holdings limits portfolio known p.commodity in
      record {
        risk = rw is.scan (omega (arith, risk));
        charge = rw is.charge (omega (arith, tiers.small));
        delivery = rw is.delivery (omega (arith, delivery));
        minimum = rw is.minimum (omega (arith, minimum));
        net = rw is.net (net_small (deltas_at t holdings p.commodity) deltas);
        price2 = rw is.scan (price2_at_small t holdings limits portfolio known p.commodity);
      }

  -- after all spreads, the states contain the state of the part's commodity
  pub has_state : (states : List CommodityState) → p.commodity < length t.commodities → states ≡ inter_states t holdings → HasState states p
  has_state states lt all = record {
    known = let long = length-inter_states t holdings limits portfolio known in omega (arith, lt, long, ap length all);
    small = small_part lt;
  }

  -- the next part can be loaded
  pub can_be_loaded : (from : ℕ) (states : List CommodityState) → IsNext t holdings from p.commodity
      → states ≡ states_loaded t holdings from → CanBeLoaded states p
  can_be_loaded from states next loaded =
      let le : p.commodity ≤ length t.commodities = omega (arith, next.known) in
      let here = loaded ∙ states_over t holdings from p.commodity next.behind le next.none in
      record {
        state = record {
          known = let long = length_partly t holdings limits portfolio known p.commodity le in
              omega (arith, next.known, long, ap length here);
          small = small_part next.known;
        };
        not_loaded = subst (λ ls. IsNotLoaded ls p.commodity) (sym here)
            (not_loaded t holdings limits portfolio known p.commodity next.known);
        unspread = subst IsUnspread (sym here) (unspread t holdings limits portfolio known p.commodity);
      }
