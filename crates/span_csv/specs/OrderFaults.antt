-- The faults of an order file's records.
use Rattle.std.specs.Prelude.{ℕ, Bool, not, ◌&&◌, ◌==◌, List, [], ◌∷◌, length, map, find, Option, Result, true, false, bytes_eq}
use Rattle.std.specs.Option.{option_map_or}
use Rattle.span_tables.specs.Faults.{first_that_holds, first_fault, ok_unless}
use Rattle.span_tables.specs.Names.{is_among, distinct}
use Rattle.span_csv.specs.Records.{Fields, records_of, text_at, all_have, has_word_form}
use Rattle.span_csv.specs.Records.{has_number_form, is_in_range, order_forms, order_record}
use Rattle.span_tables.specs.declared.records.OrderRecord.{OrderRecord}
use Rattle.span_csv.specs.declared.faults.OrderFault.{OrderFault}
use Rattle.span_csv.specs.declared.faults.OrderFault.TheVariants as fault
use Rattle.span_tables.specs.declared.limits.TheConstants.{MAX_ORDERS}

-- the order is new, and the earlier records already have the maximum number of orders
abbrev pub exceeds_orders : List Fields → Fields → Bool
exceeds_orders earlier r =
    let orders = map (λ x. text_at x 0) earlier in
    not (is_among orders (text_at r 0)) && (length (distinct orders) == MAX_ORDERS)

-- the account differs from the account of the order's first record
abbrev pub changes_account : List Fields → Fields → Bool
changes_account earlier r =
    option_map_or (λ first. not (bytes_eq (text_at first 1) (text_at r 1)))
    (find (λ x. bytes_eq (text_at x 0) (text_at r 0)) earlier) false

-- the faults that a record may have after the earlier records, in the order of their numbers
abbrev pub order_faults : List Fields → Fields → List (Bool × (ℕ → OrderFault))
order_faults earlier r =
    (not (length r == length order_forms), fault.FieldCount)
    ∷ (not (all_have has_word_form order_forms r), fault.BadName)
    ∷ (not (all_have has_number_form order_forms r), fault.BadNumber)
    ∷ (not (all_have is_in_range order_forms r), fault.OutOfRange)
    ∷ (exceeds_orders earlier r, fault.TooManyOrders)
    ∷ (changes_account earlier r, fault.SecondAccount)
    ∷ []

-- the fault of an order file's records: the lowest-numbered fault of the first record that has one
unfoldable pub order_fault : List Fields → Option OrderFault
order_fault rs = first_fault (λ earlier x. first_that_holds (order_faults earlier x)) rs

-- the records of an order file, or its fault
unfoldable pub orders_of : List ℕ → Result (List OrderRecord) OrderFault
orders_of bytes = ok_unless (order_fault (records_of bytes)) (map order_record (records_of bytes))

-- the fault is out of memory, which the definitions of faults do not cover
abbrev pub is_memory : OrderFault → Bool
is_memory fault.OutOfMemory = true
is_memory _ = false
