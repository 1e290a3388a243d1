-- The lines that explain the figures of a commodity.
use Rattle.std.specs.Prelude.{ℕ, ◌*◌, if◌then◌else◌, List, [], ◌∷◌, ◌++◌, map, codes, decimal, ℤ, pos}
use Rattle.std.specs.Fmt.{signed_decimal}
use Rattle.span_money.specs.ExactDecimals.{exact_decimal}
use Rattle.span_money.specs.LineFields.{Line}
use Rattle.span_tables.specs.Net.{HeldContract}
use Rattle.span_tables.specs.Tables.{AcceptedTables, facts_in, inters_of}
use Rattle.span_tables.specs.declared.portfolios.Holding.{Holding}
use Rattle.span_tables.specs.declared.records.Commodity.{Commodity}
use Rattle.span_tables.specs.declared.records.MinimumMethod.{MinimumMethod}
use Rattle.span_tables.specs.declared.records.MinimumMethod.TheVariants as method
use Rattle.span_tables.specs.declared.records.ProductKind.{ProductKind}
use Rattle.span_tables.specs.declared.records.ProductKind.TheVariants as product
use Rattle.span_tables.specs.declared.sides.Direction.{Direction}
use Rattle.span_tables.specs.declared.sides.Direction.TheVariants.{ALong, AShort}
use Rattle.scan_risk.specs.Scenarios.{scan_of, scenario_sums}
use Rattle.scan_risk.specs.declared.Scan.{Scan}
use Rattle.spread_stage.specs.Spreads.{unspread}
use Rattle.inter_credit.specs.OptionValue.{position_value}
use Rattle.inter_credit.specs.Requirement.{is_call, is_put, short_count}
use Rattle.inter_credit.specs.Credits.{state_at}
use Rattle.inter_credit.specs.declared.commodity_state.CommodityState.{CommodityState}
use Rattle.plan_ir.specs.Figures.{commodity_at, deltas_at, held_at, inter_states, intras_at, loaded_states, spots_at, tiers_at}
use Rattle.reasons.specs.Shown.{inters_shown, shown_intra_charge, intras_shown, months_shown, shown_spot_charge, spots_shown}
use Rattle.reasons.specs.declared.shown.ShownInter.{ShownInter}
use Rattle.reasons.specs.declared.shown.ShownIntra.{ShownIntra}
use Rattle.reasons.specs.declared.shown.ShownMonth.{ShownMonth}
use Rattle.reasons.specs.declared.shown.ShownSpot.{ShownSpot}

-- ---- numbers and words

-- the text of a delta, which is stored in 10^-8
abbrev pub in_deltas : ℤ → List ℕ
in_deltas units = exact_decimal 8 units

-- the text of a number of spreads, which is stored in 10^-4
abbrev pub in_spreads : ℕ → List ℕ
in_spreads n = exact_decimal 4 (pos n)

-- the text of half of a number, in tenths
abbrev pub half : ℕ → List ℕ
half doubled = exact_decimal 1 (pos (doubled * 5))

-- the letter of a contract's type
abbrev pub kind_letter : ProductKind → List ℕ
kind_letter product.Future = codes "F"
kind_letter product.Call = codes "C"
kind_letter product.Put = codes "P"

-- the side that is long in a direction
abbrev pub long_side : Direction → List ℕ
long_side ALong = codes "A"
long_side AShort = codes "B"

-- the word of a counting method
abbrev pub method_word : MinimumMethod → List ℕ
method_word method.Sum = codes "SUM"
method_word method.Max = codes "MAX"

-- ---- the lines

-- a held contract: its id, type, month and net quantity, and the value of the position if options have a value
abbrev pub held_reason : AcceptedTables → HeldContract → Line
held_reason t h = record {
  word = codes "HELD";
  fields = (h.contract).id ∷ kind_letter (h.contract).kind ∷ decimal (h.contract).month ∷ signed_decimal h.net
      ∷ (if (facts_in t).options_have_value then signed_decimal (position_value h) ∷ [] else []);
}

-- the sixteen scenario sums
abbrev pub sums_reason : List ℤ → Line
sums_reason sums = record { word = codes "SUMS"; fields = map signed_decimal sums }

-- scan risk, active and paired scenario, price risk
abbrev pub scan_reason : Scan → Line
scan_reason scan = record {
  word = codes "SCAN";
  fields = signed_decimal scan.risk ∷ decimal scan.active ∷ decimal scan.paired ∷ half scan.price2 ∷ [];
}

-- a held month: its delta, and what is left of it after all spreads
abbrev pub month_reason : ShownMonth → Line
month_reason m = record {
  word = codes "MONTH";
  fields = decimal m.month ∷ in_deltas m.delta ∷ in_deltas m.left ∷ [];
}

-- an intracommodity spread in a direction: its priority, the side that is long, spreads formed, rate and charge
abbrev pub intra_reason : ShownIntra → Line
intra_reason s = record {
  word = codes "INTRA";
  fields = decimal s.priority ∷ long_side s.direction ∷ in_spreads s.formed ∷ decimal s.rate
      ∷ exact_decimal 4 (pos (shown_intra_charge s)) ∷ [];
}

-- a spot month: delta used, spread rate, delta left, outright rate and charge
abbrev pub spot_reason : ShownSpot → Line
spot_reason s = record {
  word = codes "SPOT";
  fields = decimal s.month ∷ in_deltas (pos s.used) ∷ decimal s.spread_rate ∷ in_deltas (pos s.left)
      ∷ decimal s.outright_rate ∷ exact_decimal 8 (pos (shown_spot_charge s)) ∷ [];
}

-- an intercommodity spread in a direction: its priority, the side that is long, spreads formed, the delta that it uses
-- of the commodity, and its basis points
abbrev pub inter_reason : ShownInter → Line
inter_reason s = record {
  word = codes "INTER";
  fields = decimal s.priority ∷ long_side s.direction ∷ in_spreads s.formed ∷ in_deltas (pos s.used)
      ∷ decimal s.basis_points ∷ [];
}

-- the inputs of the credit: price risk, net delta and weight
abbrev pub credit_reason : CommodityState → Line
credit_reason state = record {
  word = codes "CREDIT";
  fields = half state.price2 ∷ in_deltas state.net ∷ in_deltas (pos state.weight) ∷ [];
}

-- the inputs of the minimum: short calls, short puts, the counting method and the rate
abbrev pub short_reason : Commodity → List HeldContract → Line
short_reason c held = record {
  word = codes "SHORT";
  fields = decimal (short_count is_call held) ∷ decimal (short_count is_put held) ∷ method_word c.method
      ∷ decimal c.minimum_rate ∷ [];
}

-- ---- the commodity of number c, for an account with these holdings

-- the spreads between months of the commodity, as they form
abbrev pub intras_shown_at : AcceptedTables → List Holding → ℕ → List ShownIntra
intras_shown_at t holdings c = intras_shown (intras_at t c) (unspread (deltas_at t holdings c))

-- the months of the commodity, with what is left of them
abbrev pub months_shown_at : AcceptedTables → List Holding → ℕ → List ShownMonth
months_shown_at t holdings c = months_shown (deltas_at t holdings c) (tiers_at t holdings c).rests

-- the spot months of the commodity, with what spreads used of them
abbrev pub spots_shown_at : AcceptedTables → List Holding → ℕ → List ShownSpot
spots_shown_at t holdings c = spots_shown (deltas_at t holdings c) (tiers_at t holdings c).rests (spots_at t c)

-- the spreads between commodities that have a leg in the commodity, as they form
abbrev pub inters_shown_at : AcceptedTables → List Holding → ℕ → List ShownInter
inters_shown_at t holdings c = inters_shown c (inters_of t) (loaded_states t holdings)

-- the commodity after all spreads
abbrev pub state_after_all : AcceptedTables → List Holding → ℕ → CommodityState
state_after_all t holdings c = state_at (inter_states t holdings) c

-- the lines of the held contracts of the commodity
abbrev pub held_reasons : AcceptedTables → List Holding → ℕ → List Line
held_reasons t holdings c = map (held_reason t) (held_at t holdings c)

-- the lines of the scan of the commodity
abbrev pub scan_reasons : AcceptedTables → List Holding → ℕ → List Line
scan_reasons t holdings c =
    let sums = scenario_sums (held_at t holdings c) in
    sums_reason sums ∷ scan_reason (scan_of sums) ∷ []

-- the lines of the months of the commodity, of the spreads between them and of its spot months
abbrev pub month_reasons : AcceptedTables → List Holding → ℕ → List Line
month_reasons t holdings c =
    map month_reason (months_shown_at t holdings c)
    ++ (map intra_reason (intras_shown_at t holdings c) ++ map spot_reason (spots_shown_at t holdings c))

-- the lines of the spreads between the commodity and others, and of its credit
abbrev pub credit_reasons : AcceptedTables → List Holding → ℕ → List Line
credit_reasons t holdings c =
    map inter_reason (inters_shown_at t holdings c) ++ credit_reason (state_after_all t holdings c) ∷ []

-- all lines of the commodity except the R line with its figures
unfoldable pub reasons_of : AcceptedTables → List Holding → ℕ → List Line
reasons_of t holdings c =
    held_reasons t holdings c
    ++ (scan_reasons t holdings c
    ++ (month_reasons t holdings c
    ++ (credit_reasons t holdings c ++ short_reason (commodity_at t c) (held_at t holdings c) ∷ [])))
