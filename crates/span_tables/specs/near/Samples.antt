-- Records for test vectors, and a small file with records of each kind.
use Rattle.std.specs.Prelude.{ℕ, ℤ, List, [], ◌∷◌, codes, neg_ℤ, pos}
use Rattle.std.specs.List.{repeat}
use Rattle.span_tables.specs.declared.limits.TheConstants.{VALUE_PROFILE}
use Rattle.span_tables.specs.Profiles.{no_extras}
use Rattle.span_tables.specs.declared.records.Contract.{Contract}
use Rattle.span_tables.specs.declared.records.MinimumMethod.TheVariants as method
use Rattle.span_tables.specs.declared.records.ProductKind.{ProductKind}
use Rattle.span_tables.specs.declared.records.ProductKind.TheVariants as product
use Rattle.span_tables.specs.declared.sides.Side.TheVariants as side
use Rattle.span_tables.specs.declared.records.Record.{Record}
use Rattle.span_tables.specs.declared.records.Record.TheVariants as record_of

-- a parameter set with this id, under a profile
abbrev pub set_under : ℕ → List ℕ → Record
set_under profile id = record_of.Set (record { id = id; profile = profile; currency = codes "USD" })

-- a parameter set with this id, under profile 1
abbrev pub set : List ℕ → Record
set id = set_under 1 id

-- a parameter set with this id, under the first profile that has option values
abbrev pub value_set : List ℕ → Record
value_set id = set_under VALUE_PROFILE id

-- a commodity with this id, without a short option minimum
abbrev pub commodity : List ℕ → Record
commodity id = record_of.Commodity (record { id = id; minimum_rate = 0; method = method.Sum })

-- a contract of a commodity, with delta 1, scale 1, no fields of a profile, and these values in the sixteen scenarios
abbrev pub contract : ProductKind → List ℕ → List ℕ → ℕ → List ℤ → Contract
contract kind id of month values = record {
  id = id;
  commodity = of;
  kind = kind;
  month = month;
  delta = pos 10000;
  scale = 10000;
  values = values;
  extras = no_extras;
}

-- the risk array of a future that loses 400 for each third of the scan range
abbrev pub future_values : List ℤ
future_values =
    pos 0 ∷ pos 0 ∷ neg_ℤ (pos 400) ∷ neg_ℤ (pos 400) ∷ pos 400 ∷ pos 400 ∷ neg_ℤ (pos 800) ∷ neg_ℤ (pos 800) ∷ pos 800 ∷ pos 800
    ∷ neg_ℤ (pos 1200) ∷ neg_ℤ (pos 1200) ∷ pos 1200 ∷ pos 1200 ∷ neg_ℤ (pos 1188) ∷ pos 1188 ∷ []

-- a spread of two tiers of a commodity, one to one, the first on side A
abbrev pub tier_spread : List ℕ → ℕ → ℕ → ℕ → ℕ → Record
tier_spread of priority rate first other = record_of.Intra (record {
  commodity = of;
  priority = priority;
  rate = rate;
  legs =
      record { items = record { tier = first; side = side.A; ratio = 10000 } ∷ record { tier = other; side = side.B; ratio = 10000 } ∷ [] };
})

-- a spread of two commodities, one to one, the first on side A
abbrev pub spread : ℕ → ℕ → List ℕ → List ℕ → Record
spread priority basis_points first other = record_of.Inter (record {
  priority = priority;
  basis_points = basis_points;
  legs = record {
    items = record { commodity = first; side = side.A; ratio = 10000 }
        ∷ record { commodity = other; side = side.B; ratio = 10000 } ∷ [];
  };
})

-- the records of a file: two commodities with one contract each, two tiers, spreads not in order of priority, and a
-- spot month
abbrev pub small_file : List Record
small_file =
    set (codes "S-1")
    ∷ record_of.Commodity (record { id = codes "AA"; minimum_rate = 100; method = method.Sum })
    ∷ record_of.Commodity (record { id = codes "BB"; minimum_rate = 200; method = method.Max })
    ∷ record_of.Contract (contract product.Future (codes "FA") (codes "AA") 202503 (repeat 16 (pos 7 ∷ [])))
    ∷ record_of.Contract (contract product.Future (codes "FB") (codes "BB") 202506 (repeat 16 (pos 7 ∷ [])))
    ∷ record_of.Tier (record { commodity = codes "AA"; number = 1; first = 202501; last = 202503 })
    ∷ record_of.Tier (record { commodity = codes "AA"; number = 2; first = 202504; last = 202512 })
    ∷ tier_spread (codes "AA") 2 250 1 2
    ∷ tier_spread (codes "AA") 1 100 2 1
    ∷ record_of.Spot (record { commodity = codes "AA"; month = 202503; spread_rate = 10; outright_rate = 20 })
    ∷ spread 1 5000 (codes "BB") (codes "AA")
    ∷ []
