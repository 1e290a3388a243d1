-- The plan of accepted tables.
use Rattle.std.specs.Prelude.{◌≡◌, ℕ, zero, suc, ◌<◌, if◌then◌else◌, Some, List, [], ◌∷◌, ◌++◌, length, map, slice_get}
use Rattle.span_tables.specs.Tables.{AcceptedTables, facts_in, inters_of}
use Rattle.plan_ir.specs.Figures.{intras_at}
use Rattle.plan_ir.specs.Plans.{StepView, inputs_at, op_at, ops_in}
use Rattle.plan_ir.specs.declared.ops.Op.{Op}
use Rattle.plan_ir.specs.declared.ops.Op.TheVariants as op
use Rattle.plan_compiler.specs.Meaning.{wanted}

-- the operations f 0, f 1, up to f (n - 1), in one list
abbrev pub each : (ℕ → List Op) → ℕ → List Op
each f zero = []
each f (suc n) = each f n ++ f n

-- the steps of a commodity before its spreads
abbrev pub first_ops : ℕ → List Op
first_ops c = op.Gather c ∷ op.Sums c ∷ op.ScanMax c ∷ op.Months c ∷ op.TierStart c ∷ []

-- the steps of a commodity's spreads
abbrev pub spread_ops : ℕ → ℕ → List Op
spread_ops c spreads = each (λ j. op.Spread c j ∷ []) spreads

-- the step of a commodity's option value, if options have one
abbrev pub value_ops : AcceptedTables → ℕ → List Op
value_ops t c = if (facts_in t).options_have_value then op.NetValue c ∷ [] else []

-- the steps of a commodity after its spreads
abbrev pub final_ops : AcceptedTables → ℕ → List Op
final_ops t c = op.Delivery c ∷ op.Minimum c ∷ [] ++ value_ops t c ++ op.Final c ∷ []

-- the steps of a commodity
abbrev pub commodity_ops : AcceptedTables → ℕ → List Op
commodity_ops t c = first_ops c ++ spread_ops c (length (intras_at t c)) ++ final_ops t c

-- the steps between commodities: the loads of commodities, and then the spreads
abbrev pub inter_ops : ℕ → ℕ → List Op
inter_ops commodities spreads =
    op.InterStart ∷ [] ++ each (λ c. op.InterLoad c ∷ []) commodities ++ each (λ j. op.InterSpread j ∷ []) spreads

-- the steps of the total
abbrev pub total_ops : ℕ → List Op
total_ops commodities = op.TotalStart ∷ [] ++ each (λ c. op.TotalAdd c ∷ []) commodities

-- the steps of the account's option value, if options have one
abbrev pub premium_ops : AcceptedTables → List Op
premium_ops t =
    if (facts_in t).options_have_value then op.ValueStart ∷ [] ++ each (λ c. op.ValueAdd c ∷ []) (length t.commodities) else []

-- the operations of the plan, in order
abbrev pub ops_of : AcceptedTables → List Op
ops_of t =
    each (commodity_ops t) (length t.commodities)
    ++ inter_ops (length t.commodities) (length (inters_of t))
    ++ total_ops (length t.commodities)
    ++ premium_ops t

-- the numbers are the indexes of the named operations, in order
abbrev pub Names : List Op → List ℕ → List Op → Type 0
Names ops numbers named = map (slice_get ops) numbers ≡ map (λ o. Some o) named

-- the steps are the operations of the tables, and each input number is the index of the required operation
pub record IsPlanOf (t : AcceptedTables) (plan : List StepView) : Type 0 where
  pub ops : ops_in plan ≡ ops_of t
  pub wired : (k : ℕ) → k < length plan → Names (ops_in plan) (inputs_at plan k) (wanted t (op_at plan k))
