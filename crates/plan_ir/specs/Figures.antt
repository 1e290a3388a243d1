-- The figures of a commodity, the total and the option value, from accepted tables and the holdings of an account.
use Rattle.std.specs.Prelude.{ℕ, Bool, not, ◌==◌, if◌then◌else◌, List, [], ◌∷◌, length, map, slice_index_or, ℤ, pos}
use Rattle.std.specs.List.{range_with_len}
use Rattle.span_money.specs.Numbers.{int_sum_by}
use Rattle.span_tables.specs.Tables.{commodity_id, AcceptedTables, facts_in, intras_of, spots_of, inters_of}
use Rattle.span_tables.specs.Net.{HeldContract, held_of}
use Rattle.scan_risk.specs.Scenarios.{scenario_sums, scan_of}
use Rattle.spread_stage.specs.Charges.{intra_charge, delivery_charge}
use Rattle.spread_stage.specs.Deltas.{month_deltas, net_delta}
use Rattle.spread_stage.specs.Spreads.{TierRests, after_spreads}
use Rattle.inter_credit.specs.Credits.{unspread_state, after_inter_spreads, credit_at}
use Rattle.inter_credit.specs.OptionValue.{net_value_of}
use Rattle.inter_credit.specs.Requirement.{minimum_of, requirement_of}
use Rattle.span_tables.specs.declared.records.Commodity.{Commodity}
use Rattle.span_tables.specs.declared.records.Intra.{Intra}
use Rattle.span_tables.specs.declared.records.MinimumMethod.TheVariants as method
use Rattle.span_tables.specs.declared.records.Spot.{Spot}
use Rattle.span_tables.specs.declared.portfolios.Holding.{Holding}
use Rattle.scan_risk.specs.declared.Scan.{Scan}
use Rattle.spread_stage.specs.declared.months.MonthUnits.{MonthUnits}
use Rattle.inter_credit.specs.declared.commodity_state.CommodityState.{CommodityState}
use Rattle.plan_ir.specs.declared.figures.Figures.{Figures}

-- ---- the records of a commodity, by its number

-- a commodity for a number past the end
abbrev pub no_commodity : Commodity
no_commodity = record { id = []; minimum_rate = 0; method = method.Sum }

-- the commodity record of a number
abbrev pub commodity_at : AcceptedTables → ℕ → Commodity
commodity_at t c = slice_index_or t.commodities c no_commodity

-- the spreads of a commodity by increasing priority number
abbrev pub intras_at : AcceptedTables → ℕ → List Intra
intras_at t c = intras_of t (commodity_id t c)

-- the spot months of a commodity
abbrev pub spots_at : AcceptedTables → ℕ → List Spot
spots_at t c = spots_of t (commodity_id t c)

-- ---- the values of an account for one commodity, by its number

-- the held contracts
abbrev pub held_at : AcceptedTables → List Holding → ℕ → List HeldContract
held_at t holdings c = held_of t.contracts holdings (commodity_id t c)

-- the account holds a contract of the commodity
abbrev pub is_commodity_held : AcceptedTables → List Holding → ℕ → Bool
is_commodity_held t holdings c = not (length (held_at t holdings c) == 0)

-- the scan of the scenario sums
abbrev pub scan_at : AcceptedTables → List Holding → ℕ → Scan
scan_at t holdings c = scan_of (scenario_sums (held_at t holdings c))

-- the held months with their deltas
abbrev pub deltas_at : AcceptedTables → List Holding → ℕ → List MonthUnits
deltas_at t holdings c = month_deltas (held_at t holdings c)

-- the months after all spreads of the commodity
abbrev pub tiers_at : AcceptedTables → List Holding → ℕ → TierRests
tiers_at t holdings c = after_spreads (intras_at t c) (deltas_at t holdings c)

-- the delivery charge
abbrev pub delivery_at : AcceptedTables → List Holding → ℕ → ℕ
delivery_at t holdings c = delivery_charge (deltas_at t holdings c) (tiers_at t holdings c).rests (spots_at t c)

-- the short option minimum
abbrev pub minimum_at : AcceptedTables → List Holding → ℕ → ℕ
minimum_at t holdings c =
    minimum_of (commodity_at t c).minimum_rate (commodity_at t c).method (held_at t holdings c)

-- the option value
abbrev pub net_value_at : AcceptedTables → List Holding → ℕ → ℤ
net_value_at t holdings c = net_value_of (held_at t holdings c)

-- the state before any intercommodity spread
abbrev pub state_of : AcceptedTables → List Holding → ℕ → CommodityState
state_of t holdings c = unspread_state (net_delta (deltas_at t holdings c)) (scan_at t holdings c).price2

-- ---- the values of an account for all commodities

-- the commodities before any intercommodity spread
abbrev pub loaded_states : AcceptedTables → List Holding → List CommodityState
loaded_states t holdings = map (state_of t holdings) (range_with_len 0 (length t.commodities))

-- the commodities after all intercommodity spreads
unfoldable pub inter_states : AcceptedTables → List Holding → List CommodityState
inter_states t holdings = after_inter_spreads (inters_of t) (loaded_states t holdings)

-- figures from their numbers, in the order in which a statement prints them
abbrev pub figures_with : ℤ → ℕ → ℤ → ℤ → ℤ → ℤ → ℤ → Figures
figures_with scan active intra delivery credit minimum requirement = record {
  scan = scan;
  active = active;
  intra = intra;
  delivery = delivery;
  credit = credit;
  minimum = minimum;
  requirement = requirement;
}

-- the figures of commodity c, from its scan, the exact charge of its intracommodity spreads, its delivery charge and
-- its minimum, and from the commodities after all intercommodity spreads
abbrev pub figures_from : Scan → ℕ → ℤ → ℤ → List CommodityState → ℕ → Figures
figures_from scan charge delivery minimum states c =
    let intra = pos (intra_charge charge) in
    let credit = pos (credit_at states c) in
    figures_with scan.risk scan.active intra delivery credit minimum
    (requirement_of scan.risk intra delivery credit minimum)

-- the numbers of figures, in the order in which a statement prints them
abbrev pub numbers_of : Figures → List ℤ
numbers_of f = f.scan ∷ pos f.active ∷ f.intra ∷ f.delivery ∷ f.credit ∷ f.minimum ∷ f.requirement ∷ []

-- the figures of commodity c
unfoldable pub figures_of : AcceptedTables → List Holding → ℕ → Figures
figures_of t holdings c =
    figures_from (scan_at t holdings c) (tiers_at t holdings c).charge
    (pos (delivery_at t holdings c)) (pos (minimum_at t holdings c)) (inter_states t holdings) c

-- the sum of the requirements of the first commodities
unfoldable pub total_to : AcceptedTables → List Holding → ℕ → ℤ
total_to t holdings n = int_sum_by (λ c. (figures_of t holdings c).requirement) (range_with_len 0 n)

-- the sum of the option values of the first commodities
unfoldable pub value_to : AcceptedTables → List Holding → ℕ → ℤ
value_to t holdings n = int_sum_by (net_value_at t holdings) (range_with_len 0 n)

-- the option value of an account: the sum over all commodities, or 0 if options have no value
abbrev pub option_value_of : AcceptedTables → List Holding → ℤ
option_value_of t holdings = if (facts_in t).options_have_value then value_to t holdings (length t.commodities) else pos 0
