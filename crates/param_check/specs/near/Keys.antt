-- The keys that no two records of a kind may share.
use Rattle.std.specs.Prelude.{ℕ, Bool, false, not, ◌&&◌, ◌==◌, List, Option, Some, None}
use Rattle.std.specs.List.{list_any}
use Rattle.span_tables.specs.Rules.{is_and, as_intra, repeats_commodity, repeats_contract, repeats_tier, repeats_priority, repeats_spot}
use Rattle.span_tables.specs.declared.records.Record.{Record}
use Rattle.span_tables.specs.declared.records.Record.TheVariants as record_of
use Rattle.param_check.specs.declared.check.keys.Identity.{Identity}
use Rattle.param_check.specs.declared.check.keys.Identity.TheVariants as identity
use Rattle.param_check.specs.declared.check.keys.Key.{Key}
use Rattle.binding.specs.near.Holdings.{is_same_name}

-- the key of a name and a number
abbrev pub name_key : List ℕ → ℕ → Key
name_key name number = record { name = Some name; number = number }

-- the key of a record, if it is of the kind
abbrev pub key_of : Identity → Record → Option Key
key_of identity.Commodity (record_of.Commodity c) = Some (name_key c.id 0)
key_of identity.Contract (record_of.Contract x) = Some (name_key x.id 0)
key_of identity.Tier (record_of.Tier t) = Some (name_key t.commodity t.number)
key_of identity.Priority (record_of.Intra s) = Some (name_key s.commodity s.priority)
key_of identity.Priority (record_of.Inter s) = Some (record { name = None; number = s.priority })
key_of identity.SpotMonth (record_of.Spot s) = Some (name_key s.commodity s.month)
key_of _ _ = None

-- two keys are the same
abbrev pub is_same_key : Key → Key → Bool
is_same_key x y = is_same_name x.name y.name && (x.number == y.number)

-- there is a key, and it is among these keys
abbrev pub is_key_among : List Key → Option Key → Bool
is_key_among keys key = is_and key (λ k. list_any (is_same_key k) keys)

-- there is a key, and it is the same as this one
abbrev pub is_same : Option Key → Key → Bool
is_same key k = is_and key (λ l. is_same_key l k)

-- some record has this key
abbrev pub has_key : Identity → List Record → Key → Bool
has_key identity all key = list_any (λ r. is_same (key_of identity r) key) all

-- the record has the key of an earlier record
abbrev pub repeats : Identity → List Record → Record → Bool
repeats identity.Commodity = repeats_commodity
repeats identity.Contract = repeats_contract
repeats identity.Tier = repeats_tier
repeats identity.Priority = repeats_priority
repeats identity.SpotMonth = repeats_spot

-- no record has the key of this name and number; `keys` are the keys of all records
abbrev pub is_key_unknown : List Key → List ℕ → ℕ → Bool
is_key_unknown keys name number = not (is_key_among keys (Some (name_key name number)))

-- the record names a commodity that no COMMODITY record has
abbrev pub names_unknown : List Key → Record → Bool
names_unknown commodities (record_of.Contract x) = is_key_unknown commodities x.commodity 0
names_unknown commodities (record_of.Tier x) = is_key_unknown commodities x.commodity 0
names_unknown commodities (record_of.Intra x) = is_key_unknown commodities x.commodity 0
names_unknown commodities (record_of.Spot x) = is_key_unknown commodities x.commodity 0
names_unknown commodities (record_of.Inter x) = list_any (λ leg. is_key_unknown commodities leg.commodity 0) x.legs.items
names_unknown commodities _ = false

-- the record is an INTRA with a leg whose tier is in no TIER record of its commodity
abbrev pub names_unknown_tier : List Key → Record → Bool
names_unknown_tier tiers r =
    is_and (as_intra r) (λ s. list_any (λ leg. is_key_unknown tiers s.commodity leg.tier) s.legs.items)
