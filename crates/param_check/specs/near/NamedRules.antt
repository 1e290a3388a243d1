-- The rules by name, the faults of each rule, and the keys and months that decide it.
use Rattle.std.specs.Prelude.{◌≡◌, ⊤, ℕ, Bool, if◌then◌else◌, List, Option, Some, None, filter_map, flat_map}
use Rattle.span_tables.specs.Faults.{all_faults}
use Rattle.span_tables.specs.Rules.{is_backwards, is_one_sided, names_no_commodity, names_no_tier, overlaps_tier, repeats_leg}
use Rattle.span_tables.specs.declared.records.Record.{Record}
use Rattle.param_check.specs.declared.check.Rule.{Rule}
use Rattle.param_check.specs.declared.check.Rule.TheVariants as rule
use Rattle.param_check.specs.declared.check.keys.Identity.TheVariants as identity
use Rattle.param_check.specs.declared.check.keys.Key.{Key}
use Rattle.param_check.specs.declared.check.overlaps.Months.{Months}
use Rattle.param_check.specs.declared.faults.CheckFault.{CheckFault}
use Rattle.param_check.specs.declared.faults.CheckFault.TheVariants as fault
use Rattle.param_check.specs.near.Keys.{has_key, is_key_among, repeats}
use Rattle.param_check.specs.near.Overlaps.{months_under}

-- a record after the earlier ones breaks a rule, given all records of the file
abbrev pub breaks_of : Rule → List Record → List Record → Record → Bool
breaks_of (rule.Repeats identity) all = repeats identity
breaks_of rule.UnknownCommodity all = λ earlier r. names_no_commodity all r
breaks_of rule.TierBackwards all = λ earlier r. is_backwards r
breaks_of rule.TierOverlap all = overlaps_tier
breaks_of rule.UnknownTier all = λ earlier r. names_no_tier all r
breaks_of rule.RepeatedLeg all = λ earlier r. repeats_leg r
breaks_of rule.OneSided all = λ earlier r. is_one_sided r

-- the fault of a record that breaks a rule
abbrev pub fault_of : Rule → ℕ → CheckFault
fault_of (rule.Repeats identity.Commodity) = fault.DuplicateCommodity
fault_of (rule.Repeats identity.Contract) = fault.DuplicateContract
fault_of (rule.Repeats identity.Tier) = fault.DuplicateTier
fault_of (rule.Repeats identity.Priority) = fault.DuplicatePriority
fault_of (rule.Repeats identity.SpotMonth) = fault.DuplicateSpot
fault_of rule.UnknownCommodity = fault.UnknownCommodity
fault_of rule.TierBackwards = fault.TierBackwards
fault_of rule.TierOverlap = fault.TierOverlap
fault_of rule.UnknownTier = fault.UnknownTier
fault_of rule.RepeatedLeg = fault.RepeatedLeg
fault_of rule.OneSided = fault.OneSided

-- the fault of a record after the earlier ones, if it breaks the rule
abbrev pub rule_fault : List Record → Rule → List Record → Record → Option (ℕ → CheckFault)
rule_fault all rule earlier r = if breaks_of rule all earlier r then Some (fault_of rule) else None

-- the faults of the records that break a rule
abbrev pub rule_faults : List Record → Rule → List CheckFault
rule_faults all rule = all_faults (rule_fault all rule) all

-- the faults of a list of rules
abbrev pub faults_of_rules : List Record → List Rule → List CheckFault
faults_of_rules all rules = flat_map (rule_faults all) rules

-- these keys, and these months of tiers by commodity, decide a rule after the earlier records of a file
abbrev pub IsSeen : Rule → List Record → List Record → List Key → (List ℕ → List Months) → Type 0
IsSeen (rule.Repeats identity) all earlier keys months = (k : Key) → is_key_among keys (Some k) ≡ has_key identity earlier k
IsSeen rule.UnknownCommodity all earlier keys months = (k : Key) → is_key_among keys (Some k) ≡ has_key identity.Commodity all k
IsSeen rule.UnknownTier all earlier keys months = (k : Key) → is_key_among keys (Some k) ≡ has_key identity.Tier all k
IsSeen rule.TierOverlap all earlier keys months = (c : List ℕ) → months c ≡ filter_map (months_under c) earlier
IsSeen _ all earlier keys months = ⊤
