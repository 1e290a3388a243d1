-- The values of a commodity without held contracts.
use Rattle.std.specs.Prelude.{◌≡◌, [], pos}
use Rattle.scan_risk.specs.Scenarios.{scan_of, scenario_sums}
use Rattle.spread_stage.specs.Deltas.{month_deltas}
use Rattle.spread_stage.specs.Spreads.{unspread}
use Rattle.plan_ir.specs.declared.values.Value.{Value}
use Rattle.plan_ir.specs.declared.values.Value.TheVariants as value

-- the values of the steps of a commodity before its figures
pub record EarlyValues : Type 0 where
  pub held : Value
  pub sums : Value
  pub scan : Value
  pub months : Value
  pub tiers : Value
  pub amount : Value

-- what these steps give for no held contracts
abbrev pub nothing_held : EarlyValues
nothing_held = record {
  held = value.Held [];
  sums = value.Sums (scenario_sums []);
  scan = value.Scan (scan_of (scenario_sums []));
  months = value.Months (month_deltas []);
  tiers = value.Tiers (unspread (month_deltas []));
  amount = value.Amount (pos 0);
}

-- each value is what its step gives for no held contracts
pub record AreNothing (held sums scan months tiers amount : Value) : Type 0 where
  pub held_is : held ≡ value.Held []
  pub sums_are : sums ≡ value.Sums (scenario_sums [])
  pub scan_is : scan ≡ value.Scan (scan_of (scenario_sums []))
  pub months_are : months ≡ value.Months (month_deltas [])
  pub tiers_are : tiers ≡ value.Tiers (unspread (month_deltas []))
  pub amount_is : amount ≡ value.Amount (pos 0)
