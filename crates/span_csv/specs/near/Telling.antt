-- The fault that is reported for a record when all faults of a file are reported, and what is kept about the records
-- before it.
use Rattle.std.specs.Prelude.{◌≡◌, ⊤, ℕ, ◌+◌, Bool, false, List, [], ◌∷◌, ◌++◌, length, map, take}
use Rattle.std.specs.Prelude.{Option, option_map, Some, None, Result, Ok, Err, MatchBool}
use Rattle.span_tables.specs.Names.{distinct}
use Rattle.span_tables.specs.declared.limits.TheConstants.{MAX_ACCOUNTS}
use Rattle.span_csv.specs.Records.{Fields, text_at}
use Rattle.span_csv.specs.PositionFaults.{counted, is_memory, record_fault}
use Rattle.span_csv.specs.declared.faults.PositionFault.{PositionFault}

-- the fault of the answer is appended, and an answer without a fault changes nothing
abbrev pub Tells : {R F : Type 0} → (F → Bool) → Result R F → List F → List F → Type 0
Tells is_memory (Ok _) old new = new ≡ old
Tells is_memory (Err e) old new = (is_memory e ≡ false) × (new ≡ old ++ e ∷ [])

-- the answer for a record after earlier ones is its fault, if it has one, and `Kept` is true of the records including
-- it
abbrev pub Judges : {X F : Type 0} → (F → Bool) → (List Fields → Fields → Option (ℕ → F)) → (List Fields → Type 0) → List Fields → Fields
    → Result X F → Type 0
Judges is_memory fault_of Kept earlier r (Ok _) = (fault_of earlier r ≡ None) × Kept (earlier ++ r ∷ [])
Judges is_memory fault_of Kept earlier r (Err e) =
    MatchBool (is_memory e) ⊤ ((option_map (λ f. f (length earlier + 1)) (fault_of earlier r) ≡ Some e) × Kept (earlier ++ r ∷ []))

-- ---- positions

-- the distinct accounts of the counted records, up to one more than the limit
abbrev pub accounts_counted : List Fields → List (List ℕ)
accounts_counted rs = take (MAX_ACCOUNTS + 1) (distinct (map (λ r. text_at r 0) (counted rs)))

-- the answer for a record after earlier ones, and the accounts that are kept afterwards
abbrev pub CheckIs : List Fields → Fields → Result ⊤ PositionFault → List (List ℕ) → Type 0
CheckIs earlier r answer accounts = Judges is_memory record_fault (λ rs. accounts ≡ accounts_counted rs) earlier r answer
