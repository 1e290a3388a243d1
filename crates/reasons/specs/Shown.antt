-- What an explanation shows of a commodity in addition to the results of its stages. It shows what is left of months,
-- spreads in the directions in which they form, and what spreads used of spot months.
use Rattle.std.specs.Prelude.{ℕ, ◌*◌, ◌==◌, if◌then◌else◌, List, [], ◌∷◌, ◌++◌, map, filter, find, not}
use Rattle.std.specs.Prelude.{Option, Some, None, option_map, nat_abs, ◌+◌}
use Rattle.span_tables.specs.declared.records.CommodityLeg.{CommodityLeg}
use Rattle.span_tables.specs.declared.records.Inter.{Inter}
use Rattle.span_tables.specs.declared.records.Intra.{Intra}
use Rattle.span_tables.specs.declared.records.Spot.{Spot}
use Rattle.span_tables.specs.declared.sides.Direction.{Direction}
use Rattle.span_tables.specs.declared.sides.Direction.TheVariants.{ALong, AShort}
use Rattle.span_tables.specs.declared.sides.SpreadsFormed.{SpreadsFormed}
use Rattle.spread_stage.specs.Charges.{left_of, used_of}
use Rattle.spread_stage.specs.Deltas.{units_at}
use Rattle.spread_stage.specs.Spreads.{TierRests, spread_both_ways}
use Rattle.spread_stage.specs.Spreads as months
use Rattle.spread_stage.specs.declared.months.MonthUnits.{MonthUnits}
use Rattle.inter_credit.specs.Credits.{inter_both_ways}
use Rattle.inter_credit.specs.Credits as commodities
use Rattle.inter_credit.specs.declared.commodity_state.CommodityState.{CommodityState}
use Rattle.reasons.specs.declared.shown.ShownInter.{ShownInter}
use Rattle.reasons.specs.declared.shown.ShownIntra.{ShownIntra}
use Rattle.reasons.specs.declared.shown.ShownMonth.{ShownMonth}
use Rattle.reasons.specs.declared.shown.ShownSpot.{ShownSpot}

-- ---- months

-- the held months, each with its delta and what is left of it
abbrev pub months_shown : List MonthUnits → List MonthUnits → List ShownMonth
months_shown deltas rests = map (λ m. record { month = m.month; delta = m.units; left = units_at rests m.month }) deltas

-- the spot months whose delta is not 0, each with what spreads used of it and what they left
abbrev pub spots_shown : List MonthUnits → List MonthUnits → List Spot → List ShownSpot
spots_shown deltas rests spots =
    map
    (λ s. record {
      month = s.month;
      used = used_of deltas rests s.month;
      spread_rate = s.spread_rate;
      left = left_of rests s.month;
      outright_rate = s.outright_rate;
    })
    (filter (λ s. not (nat_abs (units_at deltas s.month) == 0)) spots)

-- the charge of a spot month, in 10^-8 minor units
abbrev pub shown_spot_charge : ShownSpot → ℕ
shown_spot_charge s = s.used * s.spread_rate + s.left * s.outright_rate

-- ---- spreads between months

-- a spread in a direction, if more than 0 form
abbrev pub intra_in : Intra → Direction → ℕ → List ShownIntra
intra_in s d formed =
    if formed == 0 then [] else record { priority = s.priority; direction = d; formed = formed; rate = s.rate } ∷ []

-- a spread in both directions, with A long first
abbrev pub intra_ways : Intra → SpreadsFormed → List ShownIntra
intra_ways s f = intra_in s ALong f.a_long ++ intra_in s AShort f.a_short

-- the spreads of a commodity, each as it forms from the residual deltas that the spreads before it left
abbrev pub intras_shown : List Intra → TierRests → List ShownIntra
intras_shown [] t = []
intras_shown (s ∷ spreads) t = intra_ways s (months.formed_both t s) ++ intras_shown spreads (spread_both_ways t s)

-- the charge of a spread in a direction, in 10^-4 minor units
abbrev pub shown_intra_charge : ShownIntra → ℕ
shown_intra_charge s = s.formed * s.rate

-- ---- spreads between commodities

-- the ratio of the leg in the commodity of number c, if there is one
abbrev pub ratio_in : ℕ → List CommodityLeg → Option ℕ
ratio_in c legs = option_map (λ leg. leg.ratio) (find (λ leg. leg.commodity == c) legs)

-- a spread in a direction, if more than 0 form, with the delta that it uses of a commodity by the ratio of its leg
-- there
abbrev pub inter_in : Inter → ℕ → Direction → ℕ → List ShownInter
inter_in s ratio d formed =
    if formed == 0
    then []
    else record {
      priority = s.priority;
      direction = d;
      formed = formed;
      used = formed * ratio;
      basis_points = s.basis_points;
    } ∷ []

-- a spread in both directions, with A long first, if it has a leg in the commodity
abbrev pub inter_ways : Inter → SpreadsFormed → Option ℕ → List ShownInter
inter_ways s f None = []
inter_ways s f (Some ratio) = inter_in s ratio ALong f.a_long ++ inter_in s ratio AShort f.a_short

-- the spreads of the parameter set with a leg in the commodity of number c, each as it forms from what all spreads
-- before it left
abbrev pub inters_shown : ℕ → List Inter → List CommodityState → List ShownInter
inters_shown c [] states = []
inters_shown c (s ∷ spreads) states =
    inter_ways s (commodities.inter_formed_both states s) (ratio_in c s.legs)
    ++ inters_shown c spreads (inter_both_ways states s)

-- the part of a commodity's weight that a spread in a direction adds
abbrev pub weight_of : ShownInter → ℕ
weight_of s = s.used * s.basis_points
