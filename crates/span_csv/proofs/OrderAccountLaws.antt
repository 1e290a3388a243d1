-- In an order file without a fault, each record has the account of its order.
use Rattle.std.proofs.Common.{◌≡◌, ◌∙◌, refl, sym, subst, inl, inr, ℕ, false, List, [], ◌∷◌, ◌++◌, map, Option, None, Ok, append_assoc}
use Rattle.std.specs.Prelude.{All, bytes_eq}
use Rattle.std.specs.List.{AllByRecursion}
use Rattle.std.proofs.lemmas.Bool.{cases_Bool, not-false}
use Rattle.std.proofs.lemmas.List.{map-append}
use Rattle.std.proofs.lemmas.List.Elements.{All-from_recursion}
use Rattle.span_tables.specs.Faults.{first_that_holds}
use Rattle.span_tables.specs.Laws.{IsFaultFree}
use Rattle.span_tables.specs.Orders.{account_of_order}
use Rattle.span_tables.specs.declared.records.OrderRecord.{OrderRecord}
use Rattle.span_tables.proofs.FaultLaws.{first_fault_none, ok_parts}
use Rattle.span_tables.proofs.NameLemmas.{same_name}
use Rattle.span_tables.proofs.Places as places
use Rattle.span_csv.specs.OrderFaults.{order_fault, order_faults, orders_of}
use Rattle.span_csv.specs.Records.{Fields, records_of, order_record}
use Rattle.span_csv.specs.near.OrderReading.{has_another_account}
use Rattle.span_csv.specs.declared.faults.OrderFault.{OrderFault}
use Rattle.span_csv.proofs.LowestLaws.{all_fail}
use Rattle.span_csv.proofs.OrderLemmas.{record_changes}

-- a record whose order has no other account has the account of the order's first record
of_first : (earlier : List OrderRecord) (r : OrderRecord) (later : List OrderRecord)
    → has_another_account earlier r.order r.account ≡ false → r.account ≡ account_of_order (earlier ++ r ∷ later) r.order
of_first [] r later same = rw (places.same_name r.order) refl
of_first (x ∷ earlier) r later same =
    elim (cases_Bool (bytes_eq x.order r.order)) [
      | inl of_order ↦
          rw of_order (sym (same_name x.account r.account (not-false (bytes_eq x.account r.account) (rw of_order at same))))
      | inr other ↦ rw other (of_first earlier r later (rw other at same))
    ]

-- the fault of a record after earlier ones
abbrev fault_of : List Fields → Fields → Option (ℕ → OrderFault)
fault_of earlier r = first_that_holds (order_faults earlier r)

-- a record without a fault changes no account
unchanged : (before : List Fields) (x : Fields) → fault_of before x ≡ None
    → has_another_account (map order_record before) (order_record x).order (order_record x).account ≡ false
unfolding order_record
unchanged before x free = record_changes before _ _ ∙ (all_fail (order_faults before x) free).1.1.1.1.1.0

all_of_first : (before rows : List Fields) → IsFaultFree fault_of before rows
    → AllByRecursion (λ (r : OrderRecord). r.account ≡ account_of_order (map order_record (before ++ rows)) r.order) (map order_record rows)
all_of_first before [] free = tt
all_of_first before (x ∷ rows) free =
    let r = order_record x in
    let other : has_another_account (map order_record before) r.order r.account ≡ false = unchanged before x free.0 in
    let here : r.account ≡ account_of_order (map order_record (before ++ x ∷ rows)) r.order =
    rw (map-append order_record before (x ∷ rows)) (of_first (map order_record before) r (map order_record rows) other) in
    let rest = all_of_first (before ++ x ∷ []) rows free.1 in (
      here,
      subst (λ rs. AllByRecursion (λ (r : OrderRecord). r.account ≡ account_of_order (map order_record rs) r.order)
          (map order_record rows)) (append_assoc before (x ∷ []) rows) rest,
    )

-- all records of an accepted file have the account of their order
pub one_account : (bytes : List ℕ) (records : List OrderRecord) → orders_of bytes ≡ Ok records
    → All (λ r. r.account ≡ account_of_order records r.order) records
unfolding orders_of order_fault
one_account bytes records e =
    let rows = records_of bytes in
    let is = ok_parts (order_fault rows) (map order_record rows) records e in
    subst (λ rs. All (λ (r : OrderRecord). r.account ≡ account_of_order rs r.order) rs) is.1
    (All-from_recursion _ (map order_record rows) (all_of_first [] rows (first_fault_none fault_of [] rows is.0)))
