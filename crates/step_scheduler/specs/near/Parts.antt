-- The values of held commodities in a whole run, and the figures from them.
use Rattle.std.specs.Prelude.{◌≡◌, ℕ, ◌+◌, ◌*◌, ◌<◌, ◌≤◌, true, List, [], ◌∷◌, length, nat_abs, pos}
use Rattle.span_tables.specs.Tables.{AcceptedTables, facts_in}
use Rattle.span_tables.specs.declared.limits.TheConstants.{MAX_PRICE2, MAX_RATE, MAX_UNITS}
use Rattle.span_tables.specs.declared.portfolios.Holding.{Holding}
use Rattle.spread_stage.specs.Deltas.{net_delta}
use Rattle.inter_credit.specs.States.{IsNotLoaded, IsUnspread}
use Rattle.inter_credit.specs.declared.requirement.TheConstants.{MAX_PART}
use Rattle.inter_credit.specs.declared.commodity_state.CommodityState.{CommodityState}
use Rattle.plan_ir.specs.Figures.{delivery_at, deltas_at, figures_from, held_at, is_commodity_held, minimum_at, net_value_at, scan_at}
use Rattle.plan_ir.specs.Figures.{tiers_at}
use Rattle.plan_ir.specs.declared.figures.Figures.{Figures}
use Rattle.step_scheduler.specs.declared.run_memory.Part.{Part}

-- no commodity from number `from` to before number `to` is held
abbrev pub NoneHeld : AcceptedTables → List Holding → ℕ → ℕ → Type 0
NoneHeld t holdings from to = (c : ℕ) → from ≤ c → c < to → held_at t holdings c ≡ []

-- commodity c is the first held one from number `from` on
pub record IsNext (t : AcceptedTables) (holdings : List Holding) (from c : ℕ) : Type 0 where
  pub known : c < length t.commodities
  pub behind : from ≤ c
  pub none : NoneHeld t holdings from c
  pub held : is_commodity_held t holdings c ≡ true

-- no commodity from number `from` on is held
pub record IsEnd (t : AcceptedTables) (holdings : List Holding) (from : ℕ) : Type 0 where
  pub behind : from ≤ length t.commodities
  pub none : NoneHeld t holdings from (length t.commodities)

-- the part has the values of its commodity before any spread between commodities, and its option value if options have
-- one
pub record IsPart (t : AcceptedTables) (holdings : List Holding) (p : Part) : Type 0 where
  pub scan : p.scan ≡ scan_at t holdings p.commodity
  pub net : p.net ≡ net_delta (deltas_at t holdings p.commodity)
  pub charge : p.charge ≡ (tiers_at t holdings p.commodity).charge
  pub delivery : p.delivery ≡ pos (delivery_at t holdings p.commodity)
  pub minimum : p.minimum ≡ pos (minimum_at t holdings p.commodity)
  pub worth : (facts_in t).options_have_value ≡ true → p.worth ≡ net_value_at t holdings p.commodity

-- the parts of the held commodities from number `from` on, in ascending order
abbrev pub ArePartsFrom : AcceptedTables → List Holding → ℕ → List Part → Type 0
ArePartsFrom t holdings from [] = IsEnd t holdings from
ArePartsFrom t holdings from (p ∷ ps) =
    IsNext t holdings from p.commodity × IsPart t holdings p × ArePartsFrom t holdings (p.commodity + 1) ps

-- the values of the part are within their limits
pub record IsSmall (p : Part) : Type 0 where
  pub risk : nat_abs (p.scan).risk ≤ MAX_PART
  pub charge : p.charge ≤ MAX_RATE * MAX_UNITS
  pub delivery : nat_abs p.delivery ≤ MAX_PART
  pub minimum : nat_abs p.minimum ≤ MAX_PART
  pub net : nat_abs p.net ≤ MAX_UNITS
  pub price2 : (p.scan).price2 ≤ MAX_PRICE2

-- the part is within its limits, and its commodity has a state
pub record HasState (states : List CommodityState) (p : Part) : Type 0 where
  pub known : p.commodity < length states
  pub small : IsSmall p

-- the part's commodity was not loaded, and no spread was formed
pub record CanBeLoaded (states : List CommodityState) (p : Part) : Type 0 where
  pub state : HasState states p
  pub not_loaded : IsNotLoaded states p.commodity
  pub unspread : IsUnspread states

-- the figures from a part and the commodities after all spreads between them
abbrev pub figures_of_part : Part → List CommodityState → Figures
figures_of_part p states = figures_from p.scan p.charge p.delivery p.minimum states p.commodity
