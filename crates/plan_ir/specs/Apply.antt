-- What an operation takes, and its value on any inputs.
use Rattle.std.specs.Prelude.{◌≡◌, ℕ, ◌<◌, ◌≤◌, List, [], length, replicate, slice_index_or, slice_set, ⊤, All, pos, ◌+ℤ◌, nat_abs}
use Rattle.span_money.specs.declared.amounts.TheConstants.{MAX_MONEY}
use Rattle.span_tables.specs.Tables.{AcceptedTables, inters_of}
use Rattle.span_tables.specs.declared.limits.TheConstants.{MAX_PRICE2, MAX_SUM}
use Rattle.scan_risk.specs.Scenarios.{scenario_sums, scan_of}
use Rattle.spread_stage.specs.Charges.{delivery_charge}
use Rattle.spread_stage.specs.Deltas.{month_deltas, net_delta}
use Rattle.spread_stage.specs.Months.{Shrinks}
use Rattle.spread_stage.specs.Spreads.{spread_both_ways, unspread}
use Rattle.inter_credit.specs.Credits.{inter_both_ways, unspread_state}
use Rattle.inter_credit.specs.OptionValue.{net_value_of}
use Rattle.inter_credit.specs.Requirement.{minimum_of}
use Rattle.inter_credit.specs.States.{IsNotLoaded, IsUnspread}
use Rattle.inter_credit.specs.declared.requirement.TheConstants.{MAX_PART}
use Rattle.inter_credit.specs.declared.commodity_state.CommodityState.{CommodityState}
use Rattle.span_tables.specs.declared.portfolios.Holding.{Holding}
use Rattle.span_tables.specs.declared.records.Inter.{Inter}
use Rattle.span_tables.specs.declared.records.Intra.{Intra}
use Rattle.plan_ir.specs.Figures.{commodity_at, figures_from, held_at, intras_at, spots_at}
use Rattle.plan_ir.specs.Values.{IsHeld, IsSums, IsScan, IsMonths, IsTiers, IsAmount, IsFigures, IsInterState, IsTotal}
use Rattle.plan_ir.specs.Values.{held_in, sums_in, scan_in, months_in, tier_state_in, amount_in, figures_in, states_in}
use Rattle.plan_ir.specs.Values.{total_in, IsPremium, premium_in}
use Rattle.plan_ir.specs.declared.figures.Figures.{Figures}
use Rattle.plan_ir.specs.declared.ops.Op.{Op}
use Rattle.plan_ir.specs.declared.ops.Op.TheVariants as op
use Rattle.plan_ir.specs.declared.values.Value.{Value}
use Rattle.plan_ir.specs.declared.values.Value.TheVariants as value

-- the input at an index
abbrev pub input : List Value → ℕ → Value
input inputs place = slice_index_or inputs place (value.Total (pos 0))

-- spreads without legs, for an index past the end
abbrev pub no_intra : Intra
no_intra = record { priority = 0; rate = 0; legs = [] }

abbrev pub no_inter : Inter
no_inter = record { priority = 0; basis_points = 0; legs = [] }

-- the spread of a commodity at an index
abbrev pub intra_at : AcceptedTables → ℕ → ℕ → Intra
intra_at t c j = slice_index_or (intras_at t c) j no_intra

-- the intercommodity spread at an index
abbrev pub inter_at : AcceptedTables → ℕ → Inter
inter_at t j = slice_index_or (inters_of t) j no_inter

-- ---- what operations take

-- each number of an operation is the number of a commodity or a spread of the tables
abbrev pub IsOp : AcceptedTables → Op → Type 0
IsOp t (op.Gather c) = c < length t.commodities
IsOp t (op.Sums c) = c < length t.commodities
IsOp t (op.ScanMax c) = c < length t.commodities
IsOp t (op.Months c) = c < length t.commodities
IsOp t (op.TierStart c) = c < length t.commodities
IsOp t (op.Spread c j) = (c < length t.commodities) × (j < length (intras_at t c))
IsOp t (op.Delivery c) = c < length t.commodities
IsOp t (op.Minimum c) = c < length t.commodities
IsOp t (op.Final c) = c < length t.commodities
IsOp t op.InterStart = ⊤
IsOp t (op.InterLoad c) = c < length t.commodities
IsOp t (op.InterSpread j) = j < length (inters_of t)
IsOp t op.TotalStart = ⊤
IsOp t (op.TotalAdd c) = c < length t.commodities
IsOp t (op.NetValue c) = c < length t.commodities
IsOp t op.ValueStart = ⊤
IsOp t (op.ValueAdd c) = c < length t.commodities

-- no inputs
pub record TakesNothing (inputs : List Value) : Type 0 where
  pub count : length inputs ≡ 0

-- held contracts
pub record TakesHeld (inputs : List Value) : Type 0 where
  pub count : length inputs ≡ 1
  pub held : IsHeld (input inputs 0)

-- scenario sums, each within its limit
pub record TakesSums (inputs : List Value) : Type 0 where
  pub count : length inputs ≡ 1
  pub sums : IsSums (input inputs 0)
  pub small : All (λ s. nat_abs s ≤ MAX_SUM) (sums_in (input inputs 0))

-- months
pub record TakesMonths (inputs : List Value) : Type 0 where
  pub count : length inputs ≡ 1
  pub months : IsMonths (input inputs 0)

-- months after spreads
pub record TakesTiers (inputs : List Value) : Type 0 where
  pub count : length inputs ≡ 1
  pub tiers : IsTiers (input inputs 0)

-- months, and the remaining deltas of exactly these months after spreads
pub record TakesDelivery (inputs : List Value) : Type 0 where
  pub count : length inputs ≡ 2
  pub months : IsMonths (input inputs 0)
  pub tiers : IsTiers (input inputs 1)
  pub shrinks : Shrinks (months_in (input inputs 0)) (tier_state_in (input inputs 1)).rests

-- a scan, months after spreads, the delivery charge, the minimum, and the states of commodities that include this one;
-- each part of a requirement is within its limit
pub record TakesFinal (c : ℕ) (inputs : List Value) : Type 0 where
  pub count : length inputs ≡ 5
  pub scan : IsScan (input inputs 0)
  pub tiers : IsTiers (input inputs 1)
  pub delivery : IsAmount (input inputs 2)
  pub minimum : IsAmount (input inputs 3)
  pub states : IsInterState (input inputs 4)
  pub risk_small : nat_abs (scan_in (input inputs 0)).risk ≤ MAX_PART
  pub delivery_small : nat_abs (amount_in (input inputs 2)) ≤ MAX_PART
  pub minimum_small : nat_abs (amount_in (input inputs 3)) ≤ MAX_PART
  pub among : c < length (states_in (input inputs 4))

-- the states of commodities, with this one not loaded and no spread formed; the months of this one, and its scan
pub record TakesLoad (c : ℕ) (inputs : List Value) : Type 0 where
  pub count : length inputs ≡ 3
  pub states : IsInterState (input inputs 0)
  pub months : IsMonths (input inputs 1)
  pub scan : IsScan (input inputs 2)
  pub among : c < length (states_in (input inputs 0))
  pub not_loaded : IsNotLoaded (states_in (input inputs 0)) c
  pub unspread : IsUnspread (states_in (input inputs 0))
  pub price2_small : (scan_in (input inputs 2)).price2 ≤ MAX_PRICE2

-- the states of commodities that include the commodities of a spread's legs
pub record TakesLegs (spread : Inter) (inputs : List Value) : Type 0 where
  pub count : length inputs ≡ 1
  pub states : IsInterState (input inputs 0)
  pub among : All (λ leg. leg.commodity < length (states_in (input inputs 0))) spread.legs

-- a total, and the figures of a commodity; the total plus the requirement is an amount of money
pub record TakesTotal (inputs : List Value) : Type 0 where
  pub count : length inputs ≡ 2
  pub total : IsTotal (input inputs 0)
  pub figures : IsFigures (input inputs 1)
  pub small : nat_abs (total_in (input inputs 0) +ℤ (figures_in (input inputs 1)).requirement) ≤ MAX_MONEY

-- the option value of earlier commodities, and the option value of one more; their sum is an amount of money
pub record TakesPremium (inputs : List Value) : Type 0 where
  pub count : length inputs ≡ 2
  pub premium : IsPremium (input inputs 0)
  pub amount : IsAmount (input inputs 1)
  pub small : nat_abs (premium_in (input inputs 0) +ℤ amount_in (input inputs 1)) ≤ MAX_MONEY

-- the inputs have the number, kinds and ranges that the operation requires
abbrev pub TakesInputs : AcceptedTables → Op → List Value → Type 0
TakesInputs t (op.Gather c) inputs = TakesNothing inputs
TakesInputs t (op.Sums c) inputs = TakesHeld inputs
TakesInputs t (op.ScanMax c) inputs = TakesSums inputs
TakesInputs t (op.Months c) inputs = TakesHeld inputs
TakesInputs t (op.TierStart c) inputs = TakesMonths inputs
TakesInputs t (op.Spread c j) inputs = TakesTiers inputs
TakesInputs t (op.Delivery c) inputs = TakesDelivery inputs
TakesInputs t (op.Minimum c) inputs = TakesHeld inputs
TakesInputs t (op.Final c) inputs = TakesFinal c inputs
TakesInputs t op.InterStart inputs = TakesNothing inputs
TakesInputs t (op.InterLoad c) inputs = TakesLoad c inputs
TakesInputs t (op.InterSpread j) inputs = TakesLegs (inter_at t j) inputs
TakesInputs t op.TotalStart inputs = TakesNothing inputs
TakesInputs t (op.TotalAdd c) inputs = TakesTotal inputs
TakesInputs t (op.NetValue c) inputs = TakesHeld inputs
TakesInputs t op.ValueStart inputs = TakesNothing inputs
TakesInputs t (op.ValueAdd c) inputs = TakesPremium inputs

-- the operation is one of these tables, and takes these inputs
pub record Takes (t : AcceptedTables) (operation : Op) (inputs : List Value) : Type 0 where
  pub known : IsOp t operation
  pub taken : TakesInputs t operation inputs

-- ---- the value of an operation on its inputs

-- the figures of a commodity from a scan, months after spreads, the delivery charge, the minimum and the commodities
abbrev pub final_figures : ℕ → List Value → Figures
final_figures c inputs =
    figures_from (scan_in (input inputs 0)) (tier_state_in (input inputs 1)).charge (amount_in (input inputs 2))
    (amount_in (input inputs 3)) (states_in (input inputs 4)) c

-- the states with one more commodity loaded, from its months and its scan
abbrev pub states_with : ℕ → List Value → List CommodityState
states_with c inputs =
    slice_set (states_in (input inputs 0)) c
    (unspread_state (net_delta (months_in (input inputs 1))) (scan_in (input inputs 2)).price2)

-- the value of an operation on inputs, for an account with these holdings
abbrev pub value_on : AcceptedTables → List Holding → Op → List Value → Value
value_on t holdings (op.Gather c) inputs = value.Held (held_at t holdings c)
value_on t holdings (op.Sums c) inputs = value.Sums (scenario_sums (held_in (input inputs 0)))
value_on t holdings (op.ScanMax c) inputs = value.Scan (scan_of (sums_in (input inputs 0)))
value_on t holdings (op.Months c) inputs = value.Months (month_deltas (held_in (input inputs 0)))
value_on t holdings (op.TierStart c) inputs = value.Tiers (unspread (months_in (input inputs 0)))
value_on t holdings (op.Spread c j) inputs = value.Tiers (spread_both_ways (tier_state_in (input inputs 0)) (intra_at t c j))
value_on t holdings (op.Delivery c) inputs =
    value.Amount (pos (delivery_charge (months_in (input inputs 0)) (tier_state_in (input inputs 1)).rests (spots_at t c)))
value_on t holdings (op.Minimum c) inputs =
    value.Amount (pos (minimum_of (commodity_at t c).minimum_rate (commodity_at t c).method (held_in (input inputs 0))))
value_on t holdings (op.Final c) inputs = value.Figures (final_figures c inputs)
value_on t holdings op.InterStart inputs = value.Inter (replicate (length t.commodities) (unspread_state (pos 0) 0))
value_on t holdings (op.InterLoad c) inputs = value.Inter (states_with c inputs)
value_on t holdings (op.InterSpread j) inputs = value.Inter (inter_both_ways (states_in (input inputs 0)) (inter_at t j))
value_on t holdings op.TotalStart inputs = value.Total (pos 0)
value_on t holdings (op.TotalAdd c) inputs =
    value.Total (total_in (input inputs 0) +ℤ (figures_in (input inputs 1)).requirement)
value_on t holdings (op.NetValue c) inputs = value.Amount (net_value_of (held_in (input inputs 0)))
value_on t holdings op.ValueStart inputs = value.Premium (pos 0)
value_on t holdings (op.ValueAdd c) inputs = value.Premium (premium_in (input inputs 0) +ℤ amount_in (input inputs 1))
