-- The step numbers of a plan, and the plan of accepted tables with the numbers of its inputs.
use Rattle.std.specs.Prelude.{ℕ, ◌+◌, if◌then◌else◌, List, length, map}
use Rattle.span_tables.specs.Tables.{AcceptedTables, facts_in, inters_of}
use Rattle.plan_ir.specs.Figures.{intras_at}
use Rattle.plan_ir.specs.Plans.{StepView, steps_with}
use Rattle.plan_ir.specs.declared.ops.Op.{Op}
use Rattle.plan_ir.specs.declared.ops.Op.TheVariants as op
use Rattle.plan_compiler.specs.declared.layout.TheConstants.{DELIVERY, FINAL, MINIMUM, MONTHS, NET_VALUE, PREMIUM}
use Rattle.plan_compiler.specs.declared.layout.TheConstants.{SCAN, SUMS, TIERS, TOTAL, VALUE_STEPS}
use Rattle.plan_compiler.specs.Meaning.{wanted}
use Rattle.plan_compiler.specs.Plan.{commodity_ops, each, ops_of}

-- the number of the first step of commodity c; if c is the number of commodities, of the first step between commodities
abbrev pub first_step : AcceptedTables → ℕ → ℕ
first_step t c = length (each (commodity_ops t) c)

-- the step number of a commodity's state after its first spreads
abbrev pub tiers_step : AcceptedTables → ℕ → ℕ → ℕ
tiers_step t c spreads = first_step t c + TIERS + spreads

-- the step number of the state between commodities with the first commodities loaded
abbrev pub load_step : AcceptedTables → ℕ → ℕ
load_step t commodities = first_step t (length t.commodities) + commodities

-- the step number of the state between commodities after the first spreads
abbrev pub inter_step : AcceptedTables → ℕ → ℕ
inter_step t spreads = load_step t (length t.commodities) + spreads

-- the step number of the total of the first commodities
abbrev pub total_step : AcceptedTables → ℕ → ℕ
total_step t commodities = inter_step t (length (inters_of t)) + TOTAL + commodities

-- the number of steps that a commodity has for its option value
abbrev pub value_steps : AcceptedTables → ℕ
value_steps t = if (facts_in t).options_have_value then VALUE_STEPS else 0

-- the step number of the option value of the first commodities
abbrev pub premium_step : AcceptedTables → ℕ → ℕ
premium_step t commodities = total_step t (length t.commodities) + PREMIUM + commodities

-- the step number of an operation
abbrev pub place_of : AcceptedTables → Op → ℕ
place_of t (op.Gather c) = first_step t c
place_of t (op.Sums c) = first_step t c + SUMS
place_of t (op.ScanMax c) = first_step t c + SCAN
place_of t (op.Months c) = first_step t c + MONTHS
place_of t (op.TierStart c) = tiers_step t c 0
place_of t (op.Spread c j) = tiers_step t c (j + 1)
place_of t (op.Delivery c) = tiers_step t c (length (intras_at t c)) + DELIVERY
place_of t (op.Minimum c) = tiers_step t c (length (intras_at t c)) + MINIMUM
place_of t (op.Final c) = tiers_step t c (length (intras_at t c)) + FINAL + value_steps t
place_of t op.InterStart = load_step t 0
place_of t (op.InterLoad c) = load_step t (c + 1)
place_of t (op.InterSpread j) = inter_step t (j + 1)
place_of t op.TotalStart = total_step t 0
place_of t (op.TotalAdd c) = total_step t (c + 1)
place_of t (op.NetValue c) = tiers_step t c (length (intras_at t c)) + NET_VALUE
place_of t op.ValueStart = premium_step t 0
place_of t (op.ValueAdd c) = premium_step t (c + 1)

-- the numbers of the inputs of an operation's step
abbrev pub inputs_of : AcceptedTables → Op → List ℕ
inputs_of t o = map (place_of t) (wanted t o)

-- the plan of accepted tables: the operations in order, each with the step numbers of the operations that it requires
unfoldable pub plan_of : AcceptedTables → List StepView
plan_of t = steps_with (ops_of t) (map (inputs_of t) (ops_of t))
