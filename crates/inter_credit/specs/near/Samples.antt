-- Spreads and contracts for the test vectors.
use Rattle.std.specs.Prelude.{ℕ, List, [], ◌∷◌, codes, map, ℤ, pos, neg_ℤ}
use Rattle.std.specs.List.{repeat}
use Rattle.span_tables.specs.Net.{HeldContract}
use Rattle.span_tables.specs.Profiles.{no_extras}
use Rattle.span_tables.specs.near.Samples.{contract}
use Rattle.span_tables.specs.declared.limits.TheConstants.{SCENARIOS}
use Rattle.span_tables.specs.declared.records.Inter.{Inter}
use Rattle.span_tables.specs.declared.records.ProductKind.{ProductKind}
use Rattle.span_tables.specs.declared.sides.Side.TheVariants as side
use Rattle.inter_credit.specs.Credits.{after_inter_spreads, credit_of, unspread_state}
use Rattle.inter_credit.specs.declared.commodity_state.CommodityState.{CommodityState}

-- a spread of one commodity against another, with their ratios
abbrev pub spread_of : ℕ → ℕ → ℕ → ℕ → ℕ → Inter
spread_of basis_points first first_ratio second second_ratio = record {
  priority = 1;
  basis_points = basis_points;
  legs = record { commodity = first; side = side.A; ratio = first_ratio }
      ∷ record { commodity = second; side = side.B; ratio = second_ratio } ∷ [];
}

-- a number on the short side of the market
abbrev pub short : ℕ → ℤ
short n = neg_ℤ (pos n)

-- the commodities after these spreads, each with its credit
abbrev pub credited : List Inter → List CommodityState → List (CommodityState × ℕ)
credited spreads states = map (λ state. (state, credit_of state)) (after_inter_spreads spreads states)

-- two commodities with these net deltas before any spread, with 2400 and 3600 as twice their price risks
abbrev pub two_states : ℤ → ℤ → List CommodityState
two_states first second = unspread_state first 2400 ∷ unspread_state second 3600 ∷ []

-- a commodity with this net delta, remaining delta, twice its price risk, and weight
abbrev pub state_with : ℤ → ℤ → ℕ → ℕ → CommodityState
state_with net rest price2 weight = record { net = net; rest = rest; price2 = price2; weight = weight }

-- a net quantity of contracts of a kind, with this option value
abbrev pub held_with_value : ProductKind → ℤ → ℕ → HeldContract
held_with_value kind net value = record {
  contract = record (contract kind (codes "X") (codes "AA") 202503 (repeat SCENARIOS (pos 0 ∷ []))) {
    extras = record no_extras { option_value = value };
  };
  net = net;
}
