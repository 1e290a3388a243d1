-- The rules that the records of a parameter file break.
use Rattle.std.specs.Prelude.{ℕ, List, [], ◌∷◌, ◌++◌, codes, decimal, flat_map, zip, Option, Result, Bool, true, false}
use Rattle.span_tables.specs.Faults.{first_of, ok_unless}
use Rattle.span_tables.specs.Rules.{all_breaking, rules}
use Rattle.span_tables.specs.Tables.{AcceptedTables, tables_of}
use Rattle.span_tables.specs.declared.records.Record.{Record}
use Rattle.param_check.specs.declared.faults.CheckFault.{CheckFault}
use Rattle.param_check.specs.declared.faults.CheckFault.TheVariants as fault

-- the names of the rules, in the order of their numbers
abbrev pub rule_names : List (ℕ → CheckFault)
rule_names =
    fault.DuplicateCommodity
    ∷ fault.UnknownCommodity
    ∷ fault.DuplicateContract
    ∷ fault.DuplicateTier
    ∷ fault.TierBackwards
    ∷ fault.TierOverlap
    ∷ fault.UnknownTier
    ∷ fault.RepeatedLeg
    ∷ fault.OneSided
    ∷ fault.DuplicatePriority
    ∷ fault.DuplicateSpot
    ∷ []

-- the faults of a parameter file's records: each record that breaks a rule, ordered by rule and then by record
unfoldable pub check_faults : List Record → List CheckFault
check_faults all = flat_map (λ named. all_breaking named.0 named.1 all) (zip rule_names (rules all))

-- the first of these faults: the lowest-numbered broken rule, with the first record that breaks it
unfoldable pub check_fault : List Record → Option CheckFault
check_fault all = first_of (check_faults all)

-- the tables of records, or the rule that they break
unfoldable pub checked : List Record → Result AcceptedTables CheckFault
checked records = ok_unless (check_fault records) (tables_of records)

-- the fault is out of memory, which the definitions of faults do not cover
abbrev pub is_memory : CheckFault → Bool
is_memory fault.OutOfMemory = true
is_memory _ = false

-- the text of a fault: its number and name, and the number of its record
abbrev pub check_text : CheckFault → List ℕ
check_text (fault.DuplicateCommodity at) = codes "C1 DuplicateCommodity at record " ++ decimal at
check_text (fault.UnknownCommodity at) = codes "C2 UnknownCommodity at record " ++ decimal at
check_text (fault.DuplicateContract at) = codes "C3 DuplicateContract at record " ++ decimal at
check_text (fault.DuplicateTier at) = codes "C4 DuplicateTier at record " ++ decimal at
check_text (fault.TierBackwards at) = codes "C5 TierBackwards at record " ++ decimal at
check_text (fault.TierOverlap at) = codes "C6 TierOverlap at record " ++ decimal at
check_text (fault.UnknownTier at) = codes "C7 UnknownTier at record " ++ decimal at
check_text (fault.RepeatedLeg at) = codes "C8 RepeatedLeg at record " ++ decimal at
check_text (fault.OneSided at) = codes "C9 OneSided at record " ++ decimal at
check_text (fault.DuplicatePriority at) = codes "C10 DuplicatePriority at record " ++ decimal at
check_text (fault.DuplicateSpot at) = codes "C11 DuplicateSpot at record " ++ decimal at
check_text fault.OutOfMemory = codes "memory"
