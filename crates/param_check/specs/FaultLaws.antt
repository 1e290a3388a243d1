-- Definitions that only the lemmas on all faults use.
use Rattle.std.specs.Prelude.{◌≡◌, ◌⊎◌, ⊤, ℕ, ◌-◌, ◌<◌, List, [], ◌∷◌, filter, map, slice_index_or}
use Rattle.std.specs.List.{AllByRecursion, enumerate_from}
use Rattle.span_tables.specs.declared.records.Contract.{Contract}
use Rattle.span_tables.specs.declared.records.PositionRecord.{PositionRecord}
use Rattle.binding.specs.Binding.{is_known}
use Rattle.binding.specs.declared.faults.BindFault.{BindFault}
use Rattle.binding.specs.declared.faults.BindFault.TheVariants as fault
use Rattle.param_check.specs.declared.faults.CheckFault.{CheckFault}
use Rattle.param_check.specs.declared.faults.CheckFault.TheVariants as check

-- the number of a fault's rule
abbrev pub check_number : CheckFault → ℕ
check_number (check.DuplicateCommodity at) = 1
check_number (check.UnknownCommodity at) = 2
check_number (check.DuplicateContract at) = 3
check_number (check.DuplicateTier at) = 4
check_number (check.TierBackwards at) = 5
check_number (check.TierOverlap at) = 6
check_number (check.UnknownTier at) = 7
check_number (check.RepeatedLeg at) = 8
check_number (check.OneSided at) = 9
check_number (check.DuplicatePriority at) = 10
check_number (check.DuplicateSpot at) = 11
check_number check.OutOfMemory = 0

abbrev pub bind_number : BindFault → ℕ
bind_number (fault.UnknownContract at account) = 1
bind_number (fault.NetOutOfRange at account) = 2
bind_number (fault.TooManyHeld at account) = 3
bind_number fault.OutOfMemory = 0

-- the number of a fault's record
abbrev pub check_record : CheckFault → ℕ
check_record (check.DuplicateCommodity at) = at
check_record (check.UnknownCommodity at) = at
check_record (check.DuplicateContract at) = at
check_record (check.DuplicateTier at) = at
check_record (check.TierBackwards at) = at
check_record (check.TierOverlap at) = at
check_record (check.UnknownTier at) = at
check_record (check.RepeatedLeg at) = at
check_record (check.OneSided at) = at
check_record (check.DuplicatePriority at) = at
check_record (check.DuplicateSpot at) = at
check_record check.OutOfMemory = 0

abbrev pub bind_record : BindFault → ℕ
bind_record (fault.UnknownContract at account) = at
bind_record (fault.NetOutOfRange at account) = at
bind_record (fault.TooManyHeld at account) = at
bind_record fault.OutOfMemory = 0

-- a fault comes before another if its rule is lower, or if the rule is the same and its record is lower
abbrev pub ComesBefore : {F : Type 0} → (F → ℕ) → (F → ℕ) → F → F → Type 0
ComesBefore rule_of number_of x y = (rule_of x < rule_of y) ⊎ ((rule_of x ≡ rule_of y) × (number_of x < number_of y))

-- each element comes before all that follow it
abbrev pub AreInOrder : {F : Type 0} → (F → F → Type 0) → List F → Type 0
AreInOrder before [] = ⊤
AreInOrder before (x ∷ xs) = AllByRecursion (before x) xs × AreInOrder before xs

-- the record numbers, in the whole file, of the records whose contracts are in the tables
abbrev pub known_numbers : List Contract → List PositionRecord → List ℕ
known_numbers contracts all = map (λ n. n.0) (filter (λ n. is_known contracts n.1) (enumerate_from 1 all))

-- a fault with its record number replaced by the number at that index
abbrev pub renumbered : List ℕ → BindFault → BindFault
renumbered numbers (fault.UnknownContract at account) = fault.UnknownContract (slice_index_or numbers (at - 1) 0) account
renumbered numbers (fault.NetOutOfRange at account) = fault.NetOutOfRange (slice_index_or numbers (at - 1) 0) account
renumbered numbers (fault.TooManyHeld at account) = fault.TooManyHeld (slice_index_or numbers (at - 1) 0) account
renumbered numbers fault.OutOfMemory = fault.OutOfMemory
