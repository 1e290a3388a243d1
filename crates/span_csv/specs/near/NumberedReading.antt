-- Records that are numbered by the name in front: an account's or an order's name. Each field is read once. This is the
-- form in which the code has the definitions of position and order files. `names` is the number of names before the
-- quantity: the first one numbers the record, and the last one is its contract's. `most` is the maximum number of
-- different names in front. In an order file the order's name takes the role of the account.
use Rattle.std.specs.Prelude.{ℕ, ◌+◌, ◌-◌, ℤ, Bool, not, ◌&&◌, ◌==◌, if◌then◌else◌, List, []}
use Rattle.std.specs.Prelude.{◌∷◌, ◌++◌, length, take, Option, Some, None, Result, Ok, Err, pos, neg_ℤ}
use Rattle.std.specs.List.{list_all}
use Rattle.span_tables.specs.Names.{is_name, is_among}
use Rattle.span_tables.specs.Net.{accounts_of}
use Rattle.span_money.specs.Numbers.{whole_number}
use Rattle.span_csv.specs.Records.{Fields, text_at, is_within}
use Rattle.span_tables.specs.declared.records.PositionRecord.{PositionRecord}
use Rattle.span_tables.specs.declared.limits.TheConstants.{MAX_QUANTITY}
use Rattle.span_csv.specs.declared.faults.PositionFault.{PositionFault}
use Rattle.span_csv.specs.declared.faults.PositionFault.TheVariants as fault

-- the quantity is in its range
abbrev pub is_quantity : ℤ → Bool
is_quantity z = is_within (neg_ℤ (pos MAX_QUANTITY)) (pos MAX_QUANTITY) (Some z)

-- the quantity for the number of a text, or its fault
abbrev pub quantity_from : ℕ → Option ℤ → Result ℤ PositionFault
quantity_from at None = Err (fault.BadNumber at)
quantity_from at (Some quantity) = if is_quantity quantity then Ok quantity else Err (fault.OutOfRange at)

-- the first fields are names
abbrev pub are_names : ℕ → Fields → Bool
are_names names r = list_all is_name (take names r)

-- the quantity of a record, or its fault without regard to other records
unfoldable pub quantity_alone : ℕ → ℕ → Fields → Result ℤ PositionFault
quantity_alone names at r =
    if length r == names + 1
    then (if are_names names r then quantity_from at (whole_number (text_at r names)) else Err (fault.BadName at))
    else Err (fault.FieldCount at)

-- the name is new, and the maximum number of names is already known
abbrev pub is_one_too_many : ℕ → List (List ℕ) → List ℕ → Bool
is_one_too_many most known name = not (is_among known name) && (length known == most)

-- the names, with one appended if it is new
abbrev pub with_name : List (List ℕ) → List ℕ → List (List ℕ)
with_name known name = if is_among known name then known else known ++ name ∷ []

-- the position for a record and its quantity
abbrev pub position_with : ℕ → Fields → ℤ → PositionRecord
position_with names r quantity = record { account = text_at r 0; contract = text_at r (names - 1); quantity = quantity }

-- the position after other positions with these names, or its fault
abbrev pub position_behind : ℕ → ℕ → ℕ → List (List ℕ) → Fields → Result ℤ PositionFault → Result PositionRecord PositionFault
position_behind names most at known r (Err e) = Err e
position_behind names most at known r (Ok quantity) =
    if is_one_too_many most known (text_at r 0) then Err (fault.TooManyAccounts at) else Ok (position_with names r quantity)

-- the position of a record after earlier positions, or its fault
unfoldable pub next_position : ℕ → ℕ → List PositionRecord → Fields → Result PositionRecord PositionFault
next_position names most earlier r =
    position_behind names most (length earlier + 1) (accounts_of earlier) r (quantity_alone names (length earlier + 1) r)
