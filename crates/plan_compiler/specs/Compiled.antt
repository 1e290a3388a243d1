-- Properties of a compiled set.
use Rattle.std.specs.Prelude.{◌≡◌, ℕ, ◌<◌, ◌≤◌, ◌==◌, true, false, List, length, map, All}
use Rattle.span_tables.specs.Holdings.{ArePortfolio, fits}
use Rattle.span_tables.specs.Names.{has_repeat}
use Rattle.span_tables.specs.Tables.{AcceptedTables}
use Rattle.span_tables.specs.declared.portfolios.Holding.{Holding}
use Rattle.plan_ir.specs.Apply.{Takes, value_on}
use Rattle.plan_ir.specs.Plans.{StepView, inputs_at, op_at}
use Rattle.plan_ir.specs.declared.plans.TheConstants.{MAX_INPUTS, MAX_STEPS}
use Rattle.plan_ir.specs.declared.values.Value.{Value}
use Rattle.plan_compiler.specs.Meaning.{meaning}

-- the contract view of a compiled set
pub record SetView : Type 0 where
  pub tables : AcceptedTables
  pub plan : List StepView

-- the holdings of an account fit the tables
pub record Fits (t : AcceptedTables) (holdings : List Holding) : Type 0 where
  pub portfolio : ArePortfolio holdings
  pub known : fits (length t.contracts) holdings ≡ true

-- the meaning of step k for an account with these holdings
abbrev pub step_meaning : SetView → List Holding → ℕ → Value
step_meaning set holdings k = meaning set.tables holdings (op_at set.plan k)

-- the meanings of the inputs of step k, in their order
abbrev pub input_meanings : SetView → List Holding → ℕ → List Value
input_meanings set holdings k = map (step_meaning set holdings) (inputs_at set.plan k)

-- The plan law. The numbers of steps and of inputs are within their limits. The inputs of a step are distinct steps of
-- the plan, of a lower rank than the step. For all holdings that fit, the step's operation takes the meanings of its
-- inputs, and gives the step's own meaning on them.
pub record IsCompiled (set : SetView) : Type 0 where
  pub few_steps : length set.plan ≤ MAX_STEPS
  pub in_range : (k : ℕ) → k < length set.plan → All (λ i. i < length set.plan) (inputs_at set.plan k)
  pub few_inputs : (k : ℕ) → k < length set.plan → length (inputs_at set.plan k) ≤ MAX_INPUTS
  pub distinct : (k : ℕ) → k < length set.plan → has_repeat (λ a b. a == b) (inputs_at set.plan k) ≡ false
  pub rank : ℕ → ℕ
  pub lower : (k : ℕ) → k < length set.plan → All (λ i. rank i < rank k) (inputs_at set.plan k)
  pub taken : (holdings : List Holding) → Fits set.tables holdings → (k : ℕ) → k < length set.plan
      → Takes set.tables (op_at set.plan k) (input_meanings set holdings k)
  pub gives : (holdings : List Holding) → Fits set.tables holdings → (k : ℕ) → k < length set.plan
      → value_on set.tables holdings (op_at set.plan k) (input_meanings set holdings k) ≡ step_meaning set holdings k
