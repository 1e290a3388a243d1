-- Order records read one after another give the result of the definition for the whole file.
use Rattle.std.proofs.Common.{◌≡◌, ◌∙◌, refl, ap, inl, inr, ℕ, ◌+◌, Bool, false, not, ℤ}
use Rattle.std.proofs.Common.{List, [], ◌∷◌, length, map, Option, Some, Result, Ok, Err}
use Rattle.std.specs.Prelude.{bytes_eq, find}
use Rattle.std.specs.Option.{option_map_or}
use Rattle.std.proofs.lemmas.Bool.{cases_Bool}
use Rattle.std.proofs.lemmas.List.{length-map}
use Rattle.span_tables.specs.Faults.{first_that_holds}
use Rattle.span_tables.specs.Laws.{IsFaultFree}
use Rattle.span_tables.specs.Names.{distinct}
use Rattle.span_tables.proofs.NameLemmas.{is_among-distinct}
use Rattle.span_tables.specs.near.Orders.{under_order}
use Rattle.span_tables.specs.declared.limits.TheConstants.{MAX_ORDERS}
use Rattle.span_tables.specs.declared.records.OrderRecord.{OrderRecord}
use Rattle.span_tables.specs.declared.records.PositionRecord.{PositionRecord}
use Rattle.span_money.specs.Numbers.{whole_number}
use Rattle.span_csv.specs.Records.{Fields, records_of, text_at, order_record}
use Rattle.span_csv.specs.OrderFaults.{order_fault, order_faults, orders_of, exceeds_orders, changes_account}
use Rattle.span_csv.specs.near.NumberedReading.{next_position, position_behind, quantity_alone}
use Rattle.span_csv.specs.near.OrderReading.{as_order_fault, has_another_account, next_order, order_behind}
use Rattle.span_csv.specs.near.RecordReading.{records_after}
use Rattle.span_csv.specs.declared.orders.TheConstants.{ORDER_NAMES}
use Rattle.span_csv.specs.declared.faults.PositionFault.{PositionFault}
use Rattle.span_csv.specs.declared.faults.OrderFault.{OrderFault}
use Rattle.span_csv.specs.declared.faults.OrderFault.TheVariants as fault
use Rattle.span_csv.proofs.AloneLemmas.{left_alone, left_by, with_quantity}
use Rattle.span_csv.proofs.PositionLemmas.{names_of}
use Rattle.span_csv.proofs.RecordLemmas.{records_after-judged}

-- the order names of the records are the texts of their first fields
record_orders : (before : List Fields)
    → map (λ (p : PositionRecord). p.account) (map under_order (map order_record before)) ≡ names_of before
unfolding order_record
record_orders [] = refl
record_orders (r ∷ before) = ap (λ rest. text_at r 0 ∷ rest) (record_orders before)

-- the accounts of the records are the texts of their second fields
pub record_changes : (before : List Fields) (order account : List ℕ) → has_another_account (map order_record before) order account
    ≡ option_map_or (λ x. not (bytes_eq (text_at x 1) account)) (find (λ x. bytes_eq (text_at x 0) order) before) false
unfolding order_record
record_changes [] order account = refl
record_changes (r ∷ before) order account =
    elim (cases_Bool (bytes_eq (text_at r 0) order)) [
      | inl same ↦ rw same refl
      | inr other ↦ rw other (record_changes before order account)
    ]

module _ (at : ℕ) (before : List Fields) (r : Fields) where
  order_of : Result ℤ PositionFault → Result OrderRecord OrderFault
  order_of o =
      order_behind at (map order_record before) (text_at r 1)
      (position_behind ORDER_NAMES MAX_ORDERS at (distinct (names_of before)) r o)

  -- the faults that depend on other records
  abbrev among_others : List (Bool × (ℕ → OrderFault))
  among_others = (exceeds_orders before r, fault.TooManyOrders) ∷ (changes_account before r, fault.SecondAccount) ∷ []

  by_quantity : (o : Result ℤ PositionFault) → order_of o ≡ with_quantity as_order_fault (λ q. order_of (Ok q)) o
  unfolding order_of
  by_quantity (Err e) = refl
  by_quantity (Ok q) = refl

  made : (q : ℤ) → whole_number (text_at r 3) ≡ Some q
      → record { order = text_at r 0; account = text_at r 1; contract = text_at r 2; quantity = q } ≡ order_record r
  unfolding order_record
  made q is = rw is refl

  counted : (q : ℤ) → whole_number (text_at r 3) ≡ Some q → order_of (Ok q) ≡ left_by at (order_record r) among_others
  unfolding order_of
  counted q is =
      elim (cases_Bool (exceeds_orders before r)) [
        | inl over ↦ rw (is_among-distinct (names_of before) (text_at r 0), over) refl
        | inr room ↦
            elim (cases_Bool (changes_account before r)) [
              | inl other ↦ rw (
                is_among-distinct (names_of before) (text_at r 0),
                room,
                record_changes before (text_at r 0) (text_at r 1),
                other,
              ) refl
              | inr same ↦ rw (
                is_among-distinct (names_of before) (text_at r 0),
                room,
                record_changes before (text_at r 0) (text_at r 1),
                same,
              ) (ap Ok (made q is))
            ]
      ]

  -- the order of a record, or the first of its faults
  judged : order_of (quantity_alone ORDER_NAMES at r) ≡ left_by at (order_record r) (order_faults before r)
  judged =
      by_quantity (quantity_alone ORDER_NAMES at r)
      ∙ left_alone as_order_fault ORDER_NAMES at r among_others (order_record r) (λ q. order_of (Ok q)) counted

-- the fault of a record after earlier ones
abbrev fault_of : List Fields → Fields → Option (ℕ → OrderFault)
fault_of earlier r = first_that_holds (order_faults earlier r)

-- the next record gives its lowest-numbered fault, or an order record
next_order-judged : (before : List Fields) (r : Fields) → IsFaultFree fault_of [] before → next_order (map order_record before) r
    ≡ left_by (length before + 1) (order_record r) (order_faults before r)
unfolding next_order next_position order_of
next_order-judged before r free =
    rw (length-map (map order_record before) under_order, length-map before order_record, record_orders before)
    (judged (length before + 1) before r)

-- reading from the first record on gives the result of the definition
pub orders_of-reading : (bytes : List ℕ) → records_after next_order [] (records_of bytes) ≡ orders_of bytes
unfolding orders_of order_fault
orders_of-reading bytes =
    records_after-judged next_order fault_of order_record next_order-judged
    (records_of bytes)
