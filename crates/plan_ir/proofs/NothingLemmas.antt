-- The values of operations when nothing is held.
use Rattle.std.proofs.Common.{◌≡◌, ℕ, List, [], ◌∷◌, refl, pos, replicate}
use Rattle.std.proofs.Math.Nat.{mul-zero}
use Rattle.span_tables.specs.declared.records.MinimumMethod.{MinimumMethod}
use Rattle.span_tables.specs.declared.records.MinimumMethod.TheVariants as method
use Rattle.span_tables.specs.declared.records.Spot.{Spot}
use Rattle.scan_risk.specs.Scenarios.{scenario_sums}
use Rattle.spread_stage.specs.Charges.{delivery_charge}
use Rattle.spread_stage.specs.Deltas.{month_deltas}
use Rattle.spread_stage.specs.Months.{Shrinks}
use Rattle.spread_stage.specs.declared.months.MonthUnits.{MonthUnits}
use Rattle.spread_stage.proofs.ClosedLemmas.{delivery_of_nothing}
use Rattle.inter_credit.specs.OptionValue.{net_value_of}
use Rattle.inter_credit.specs.Requirement.{minimum_of}

-- without contracts there are no months
pub month_deltas_of_nothing : month_deltas [] ≡ []
unfolding month_deltas
month_deltas_of_nothing = refl

-- the sums of no contracts are 0
pub sums_of_nothing : scenario_sums [] ≡ replicate 16 (pos 0)
unfolding scenario_sums
sums_of_nothing = refl

-- the minimum of no contracts is 0
pub minimum_of_nothing : (rate : ℕ) (m : MinimumMethod) → minimum_of rate m [] ≡ 0
unfolding minimum_of
minimum_of_nothing rate method.Sum = mul-zero rate
minimum_of_nothing rate method.Max = mul-zero rate

-- the option value of no contracts is 0
pub value_of_nothing : net_value_of [] ≡ pos 0
unfolding net_value_of
value_of_nothing = refl

-- without months nothing remains and nothing is delivered, so the delivery charge is 0
pub delivery_of_no_months : (rests : List MonthUnits) (spots : List Spot) → Shrinks [] rests → delivery_charge [] rests spots ≡ 0
delivery_of_no_months [] spots shrinks = delivery_of_nothing spots
delivery_of_no_months (r ∷ rests) spots shrinks = absurd shrinks
