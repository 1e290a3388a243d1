-- The months of tiers, by their commodity.
use Rattle.std.specs.Prelude.{ℕ, Bool, false, nat_le, min, max, if◌then◌else◌, List, [], Option, Some, None, bytes_eq}
use Rattle.std.specs.List.{list_any}
use Rattle.std.specs.Option.{option_map_or}
use Rattle.std.specs.Global.{Vec}
use Rattle.std.specs.HashMap.{HashMap, get}
use Rattle.span_tables.specs.declared.records.Tier.{Tier}
use Rattle.span_tables.specs.declared.records.Record.{Record}
use Rattle.span_tables.specs.declared.records.Record.TheVariants as record_of
use Rattle.param_check.specs.declared.check.overlaps.Months.{Months}

-- the months of a tier
abbrev pub tier_months : Tier → Months
tier_months t = record { first = t.first; last = t.last }

-- two tiers with these months share a month
abbrev pub meet : Months → Months → Bool
meet x y = nat_le (max x.first y.first) (min x.last y.last)

-- the months of a record, if it is a TIER of this commodity
abbrev pub months_under : List ℕ → Record → Option Months
months_under commodity (record_of.Tier t) = if bytes_eq t.commodity commodity then Some (tier_months t) else None
months_under commodity _ = None

-- the months that a map has for a commodity
abbrev pub months_in : {S : Type 0} → HashMap (List ℕ) (Vec Months) S → List ℕ → List Months
months_in tiers commodity = option_map_or (λ v. v.items) (get bytes_eq tiers commodity) []

-- the record is a TIER that shares a month with one of the earlier months of its commodity
abbrev pub meets_earlier : (List ℕ → List Months) → Record → Bool
meets_earlier earlier (record_of.Tier t) = list_any (meet (tier_months t)) (earlier t.commodity)
meets_earlier earlier _ = false
