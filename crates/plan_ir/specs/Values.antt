-- The kinds of values, and the content of a value of each kind.
use Rattle.std.specs.Prelude.{List, [], ⊤, ℤ, pos}
use Rattle.span_tables.specs.Net.{HeldContract}
use Rattle.scan_risk.specs.declared.Scan.{Scan}
use Rattle.spread_stage.specs.Spreads.{TierRests, unspread}
use Rattle.spread_stage.specs.declared.months.MonthUnits.{MonthUnits}
use Rattle.inter_credit.specs.declared.commodity_state.CommodityState.{CommodityState}
use Rattle.plan_ir.specs.Figures.{figures_with}
use Rattle.plan_ir.specs.declared.figures.Figures.{Figures}
use Rattle.plan_ir.specs.declared.values.Value.{Value}
use Rattle.plan_ir.specs.declared.values.Value.TheVariants as value

abbrev pub IsHeld : Value → Type 0
IsHeld (value.Held x) = ⊤
IsHeld v = ⊥

abbrev pub IsSums : Value → Type 0
IsSums (value.Sums x) = ⊤
IsSums v = ⊥

abbrev pub IsScan : Value → Type 0
IsScan (value.Scan x) = ⊤
IsScan v = ⊥

abbrev pub IsMonths : Value → Type 0
IsMonths (value.Months x) = ⊤
IsMonths v = ⊥

abbrev pub IsTiers : Value → Type 0
IsTiers (value.Tiers x) = ⊤
IsTiers v = ⊥

abbrev pub IsAmount : Value → Type 0
IsAmount (value.Amount x) = ⊤
IsAmount v = ⊥

abbrev pub IsFigures : Value → Type 0
IsFigures (value.Figures x) = ⊤
IsFigures v = ⊥

abbrev pub IsInterState : Value → Type 0
IsInterState (value.Inter x) = ⊤
IsInterState v = ⊥

abbrev pub IsTotal : Value → Type 0
IsTotal (value.Total x) = ⊤
IsTotal v = ⊥

abbrev pub IsPremium : Value → Type 0
IsPremium (value.Premium x) = ⊤
IsPremium v = ⊥

-- ---- the content of a value; the default of a kind is used for a value of another kind

-- the scan of a commodity without held contracts
abbrev pub no_scan : Scan
no_scan = record { risk = pos 0; active = 1; paired = 2; price2 = 0 }

-- the figures of a commodity without held contracts
abbrev pub no_figures : Figures
no_figures = figures_with (pos 0) 1 (pos 0) (pos 0) (pos 0) (pos 0) (pos 0)

abbrev pub held_in : Value → List HeldContract
held_in (value.Held x) = x
held_in v = []

abbrev pub sums_in : Value → List ℤ
sums_in (value.Sums x) = x
sums_in v = []

abbrev pub scan_in : Value → Scan
scan_in (value.Scan x) = x
scan_in v = no_scan

abbrev pub months_in : Value → List MonthUnits
months_in (value.Months x) = x
months_in v = []

abbrev pub tier_state_in : Value → TierRests
tier_state_in (value.Tiers x) = x
tier_state_in v = unspread []

abbrev pub amount_in : Value → ℤ
amount_in (value.Amount x) = x
amount_in v = pos 0

abbrev pub figures_in : Value → Figures
figures_in (value.Figures x) = x
figures_in v = no_figures

abbrev pub states_in : Value → List CommodityState
states_in (value.Inter x) = x
states_in v = []

abbrev pub total_in : Value → ℤ
total_in (value.Total x) = x
total_in v = pos 0

abbrev pub premium_in : Value → ℤ
premium_in (value.Premium x) = x
premium_in v = pos 0
