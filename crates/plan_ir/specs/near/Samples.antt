-- A plan and stage values for test vectors.
use Rattle.std.specs.Prelude.{ℕ, List, [], ◌∷◌, pos}
use Rattle.scan_risk.specs.declared.Scan.{Scan}
use Rattle.spread_stage.specs.Spreads.{TierRests}
use Rattle.inter_credit.specs.declared.commodity_state.CommodityState.{CommodityState}
use Rattle.plan_ir.specs.Plans.{StepView}
use Rattle.plan_ir.specs.declared.ops.Op.{Op}
use Rattle.plan_ir.specs.declared.ops.Op.TheVariants as op

-- an operation with its inputs
abbrev pub step : Op → List ℕ → StepView
step operation inputs = record { op = operation; inputs = inputs }

-- four steps; the last one is also an input of the third
abbrev pub small_plan : List StepView
small_plan =
    step (op.Gather 0) []
    ∷ step (op.Sums 0) (0 ∷ [])
    ∷ step (op.Final 0) (1 ∷ 0 ∷ 3 ∷ [])
    ∷ step op.InterStart []
    ∷ []

-- a scan risk of 1200 in scenario 13
abbrev pub scan : Scan
scan = record { risk = pos 1200; active = 13; paired = 14; price2 = 2400 }

-- an exact charge of 83.325
abbrev pub tiers : TierRests
tiers = record { rests = []; charge = 833250 }

-- one commodity that is long one delta, all of it offset at half of its price risk: a credit of 600
abbrev pub states : List CommodityState
states = record { net = pos 100000000; rest = pos 0; price2 = 2400; weight = 500000000000 } ∷ []
