-- The meaning of each step, without reference to other steps, and the operations that are its inputs.
use Rattle.std.specs.Prelude.{ℕ, zero, suc, ◌+◌, ◌-◌, List, [], ◌∷◌, ◌++◌, length, map, replicate, take, pos}
use Rattle.std.specs.List.{range_with_len}
use Rattle.span_tables.specs.Tables.{AcceptedTables, inters_of}
use Rattle.span_tables.specs.declared.limits.TheConstants.{MAX_INTRA_SPREADS}
use Rattle.span_tables.specs.declared.portfolios.Holding.{Holding}
use Rattle.scan_risk.specs.Scenarios.{scenario_sums}
use Rattle.spread_stage.specs.Spreads.{TierRests, after_spreads, unspread}
use Rattle.inter_credit.specs.Credits.{after_inter_spreads, unspread_state}
use Rattle.inter_credit.specs.declared.commodity_state.CommodityState.{CommodityState}
use Rattle.plan_ir.specs.Figures.{deltas_at, delivery_at, figures_of, held_at, intras_at, state_of, loaded_states, minimum_at}
use Rattle.plan_ir.specs.Figures.{net_value_at, scan_at, total_to, value_to}
use Rattle.plan_ir.specs.declared.ops.Op.{Op}
use Rattle.plan_ir.specs.declared.ops.Op.TheVariants as op
use Rattle.plan_ir.specs.declared.values.Value.{Value}
use Rattle.plan_ir.specs.declared.values.Value.TheVariants as value

-- the months of a commodity after its first spreads
abbrev pub tiers_after : AcceptedTables → List Holding → ℕ → ℕ → TierRests
tiers_after t holdings c spreads = after_spreads (take spreads (intras_at t c)) (deltas_at t holdings c)

-- the states of all commodities, with the first n loaded
abbrev pub states_loaded : AcceptedTables → List Holding → ℕ → List CommodityState
states_loaded t holdings n =
    map (state_of t holdings) (range_with_len 0 n) ++ replicate (length t.commodities - n) (unspread_state (pos 0) 0)

-- the states of all commodities after the first intercommodity spreads
abbrev pub states_after_first : AcceptedTables → List Holding → ℕ → List CommodityState
states_after_first t holdings spreads = after_inter_spreads (take spreads (inters_of t)) (loaded_states t holdings)

-- the meaning of an operation in the plan, for an account with these holdings
abbrev pub meaning : AcceptedTables → List Holding → Op → Value
meaning t holdings (op.Gather c) = value.Held (held_at t holdings c)
meaning t holdings (op.Sums c) = value.Sums (scenario_sums (held_at t holdings c))
meaning t holdings (op.ScanMax c) = value.Scan (scan_at t holdings c)
meaning t holdings (op.Months c) = value.Months (deltas_at t holdings c)
meaning t holdings (op.TierStart c) = value.Tiers (unspread (deltas_at t holdings c))
meaning t holdings (op.Spread c j) = value.Tiers (tiers_after t holdings c (j + 1))
meaning t holdings (op.Delivery c) = value.Amount (pos (delivery_at t holdings c))
meaning t holdings (op.Minimum c) = value.Amount (pos (minimum_at t holdings c))
meaning t holdings (op.Final c) = value.Figures (figures_of t holdings c)
meaning t holdings op.InterStart = value.Inter (states_loaded t holdings 0)
meaning t holdings (op.InterLoad c) = value.Inter (states_loaded t holdings (c + 1))
meaning t holdings (op.InterSpread j) = value.Inter (states_after_first t holdings (j + 1))
meaning t holdings op.TotalStart = value.Total (pos 0)
meaning t holdings (op.TotalAdd c) = value.Total (total_to t holdings (c + 1))
meaning t holdings (op.NetValue c) = value.Amount (net_value_at t holdings c)
meaning t holdings op.ValueStart = value.Premium (pos 0)
meaning t holdings (op.ValueAdd c) = value.Premium (value_to t holdings (c + 1))

-- ---- the operations that precede others

-- the operation before spread j of a commodity; if j is the number of its spreads, the last one
abbrev pub before_spread : ℕ → ℕ → Op
before_spread c zero = op.TierStart c
before_spread c (suc j) = op.Spread c j

-- the state between commodities before commodity c is loaded
abbrev pub before_load : ℕ → Op
before_load zero = op.InterStart
before_load (suc c) = op.InterLoad c

-- the state between commodities before intercommodity spread j, or after all of them
abbrev pub before_inter : AcceptedTables → ℕ → Op
before_inter t zero = before_load (length t.commodities)
before_inter t (suc j) = op.InterSpread j

-- the total before commodity c is added, or after all of them
abbrev pub before_total : ℕ → Op
before_total zero = op.TotalStart
before_total (suc c) = op.TotalAdd c

-- the option value before the value of commodity c is added, or after all of them
abbrev pub before_value : ℕ → Op
before_value zero = op.ValueStart
before_value (suc c) = op.ValueAdd c

-- the state of a commodity after all of its spreads
abbrev pub last_tiers : AcceptedTables → ℕ → Op
last_tiers t c = before_spread c (length (intras_at t c))

-- the state between commodities after all spreads
abbrev pub last_inter : AcceptedTables → Op
last_inter t = before_inter t (length (inters_of t))

-- the total of all commodities
abbrev pub last_total : AcceptedTables → Op
last_total t = before_total (length t.commodities)

-- the option value of all commodities
abbrev pub last_value : AcceptedTables → Op
last_value t = before_value (length t.commodities)

-- the operations whose values an operation takes, in their order
abbrev pub wanted : AcceptedTables → Op → List Op
wanted t (op.Gather c) = []
wanted t (op.Sums c) = op.Gather c ∷ []
wanted t (op.ScanMax c) = op.Sums c ∷ []
wanted t (op.Months c) = op.Gather c ∷ []
wanted t (op.TierStart c) = op.Months c ∷ []
wanted t (op.Spread c j) = before_spread c j ∷ []
wanted t (op.Delivery c) = op.Months c ∷ last_tiers t c ∷ []
wanted t (op.Minimum c) = op.Gather c ∷ []
wanted t (op.Final c) = op.ScanMax c ∷ last_tiers t c ∷ op.Delivery c ∷ op.Minimum c ∷ last_inter t ∷ []
wanted t op.InterStart = []
wanted t (op.InterLoad c) = before_load c ∷ op.Months c ∷ op.ScanMax c ∷ []
wanted t (op.InterSpread j) = before_inter t j ∷ []
wanted t op.TotalStart = []
wanted t (op.TotalAdd c) = before_total c ∷ op.Final c ∷ []
wanted t (op.NetValue c) = op.Gather c ∷ []
wanted t op.ValueStart = []
wanted t (op.ValueAdd c) = before_value c ∷ op.NetValue c ∷ []

-- ---- ranks

-- a rank above the ranks of all spreads of a commodity
abbrev pub rank_above_spreads : ℕ
rank_above_spreads = 3 + MAX_INTRA_SPREADS

-- the rank of an operation; each operation that it requires has a lower rank
abbrev pub rank_of : AcceptedTables → Op → ℕ
rank_of t (op.Gather c) = 0
rank_of t (op.Sums c) = 1
rank_of t (op.ScanMax c) = 2
rank_of t (op.Months c) = 1
rank_of t (op.TierStart c) = 2
rank_of t (op.Spread c j) = 3 + j
rank_of t (op.Delivery c) = rank_above_spreads
rank_of t (op.Minimum c) = 1
rank_of t (op.Final c) = 1 + rank_above_spreads + length t.commodities + length (inters_of t)
rank_of t op.InterStart = 0
rank_of t (op.InterLoad c) = 3 + c
rank_of t (op.InterSpread j) = 3 + length t.commodities + j
rank_of t op.TotalStart = 0
rank_of t (op.TotalAdd c) = 2 + rank_above_spreads + length t.commodities + length (inters_of t) + c
rank_of t (op.NetValue c) = 1
rank_of t op.ValueStart = 0
rank_of t (op.ValueAdd c) = 2 + c
