-- Orders referred to by number, with one more record after others.
use Rattle.std.proofs.Common.{◌≡◌, ◌∙◌, refl, sym, ap, subst, inl, inr, arith, ℕ, ◌+◌, ◌<◌, ◌≤◌, Bool, true, false, not}
use Rattle.std.proofs.Common.{◌&&◌, ◌==◌, List, [], ◌∷◌, ◌++◌, length, get_or, map, Some, slice_get}
use Rattle.std.specs.Prelude.{All, bytes_eq, MatchBool, ⊤, Ok, Err}
use Rattle.std.specs.List.{position_or_len}
use Rattle.std.proofs.lemmas.Bool.{both_ways, cases_Bool, eqb-true, eq-eqb, ne_eqb, not-false}
use Rattle.std.proofs.Math.Seq.{get_or-append_seam}
use Rattle.std.proofs.lemmas.List.{map-append, length-append, length-map, get_or_append_left}
use Rattle.std.proofs.lemmas.List.Elements.{All-head, All-tail}
use Rattle.std.proofs.lemmas.Option.{slice_get_within, slice_get-get_or}
use Rattle.indexmap.specs.IndexSet.{insert_key}
use Rattle.span_tables.specs.Names.{is_among, has_repeat}
use Rattle.span_tables.specs.Net.{accounts_of}
use Rattle.span_tables.specs.near.Orders.{order_record, order_records, under_order}
use Rattle.span_tables.specs.near.Positions.{named_position, named_positions, AreNumbered}
use Rattle.span_tables.specs.declared.records.NumberedPosition.{NumberedPosition}
use Rattle.span_tables.specs.declared.records.OrderRecord.{OrderRecord}
use Rattle.span_tables.specs.declared.records.PositionRecord.{PositionRecord}
use Rattle.span_tables.proofs.GroupLemmas.{name_sym}
use Rattle.span_tables.proofs.NameLaws.{distinct_once}
use Rattle.span_tables.proofs.NameLemmas.{is_among-distinct, same_name}
use Rattle.span_tables.proofs.NumberedLaws.{accounts_of-push, among_at, name_there, stays}
use Rattle.span_tables.proofs.Places.{place_at, same_name as itself}
use Rattle.span_tables.specs.declared.limits.TheConstants.{MAX_ORDERS}
use Rattle.span_csv.specs.OrderFaults.{is_memory}
use Rattle.span_csv.specs.PositionFaults as position
use Rattle.span_csv.specs.Records.{Fields, text_at}
use Rattle.span_csv.specs.near.NumberedReading.{next_position}
use Rattle.span_csv.specs.near.OrderReading.{accounts_with, as_order_fault, has_another_account, is_of_another, next_order}
use Rattle.span_csv.specs.near.OrderReading.{numbered_order, numbered_orders, order_behind}
use Rattle.span_csv.specs.declared.orders.TheConstants.{ORDER_NAMES}
use Rattle.span_csv.specs.declared.faults.PositionFault.{PositionFault}
use Rattle.span_csv.specs.declared.faults.PositionFault.TheVariants as fault
use Rattle.span_csv.specs.declared.faults.OrderFault.TheVariants as order

-- ---- numbered orders

-- names that number records are distinct
names_apart : (keys : List (List ℕ)) (records : List NumberedPosition) → AreNumbered keys records → has_repeat bytes_eq keys ≡ false
names_apart keys records was =
    ap (has_repeat bytes_eq) was.accounts_are
    ∙ distinct_once (map (λ (p : PositionRecord). p.account) (named_positions keys records))

-- the index of the name at an index is that index
place_of : (keys : List (List ℕ)) (i : ℕ) → has_repeat bytes_eq keys ≡ false → i < length keys
    → position_or_len (bytes_eq (get_or keys i [])) keys ≡ i
place_of keys i apart within =
    (λ j. position_or_len (λ c. name_sym (get_or keys i []) c j) keys) ∙ place_at (λ c. c) keys i [] apart within

-- the names at two indexes are the same only if the indexes are
same_place : (keys : List (List ℕ)) (i j : ℕ) → has_repeat bytes_eq keys ≡ false → i < length keys → j < length keys
    → get_or keys i [] ≡ get_or keys j [] → i ≡ j
same_place keys i j apart in_i in_j same =
    sym (place_of keys i apart in_i) ∙ ap (λ n. position_or_len (bytes_eq n) keys) same ∙ place_of keys j apart in_j

-- numbered orders under their names are numbered positions
pub numbered_under : (keys accounts : List (List ℕ)) (records : List NumberedPosition)
    → map under_order (numbered_orders keys accounts records) ≡ named_positions keys records
numbered_under keys accounts [] = refl
numbered_under keys accounts (p ∷ records) = ap (λ rest. named_position keys p ∷ rest) (numbered_under keys accounts records)

numbered_by : (keys accounts : List (List ℕ)) (records : List NumberedPosition) → has_repeat bytes_eq keys ≡ false
    → All (λ (p : NumberedPosition). p.account < length keys) records
    → map (order_record keys accounts) (named_positions keys records) ≡ numbered_orders keys accounts records
numbered_by keys accounts [] apart known = refl
numbered_by keys accounts (p ∷ records) apart known =
    let place = place_of keys p.account apart (All-head (λ (p : NumberedPosition). p.account < length keys) p records known) in
    let rest = numbered_by keys accounts records apart (All-tail (λ (p : NumberedPosition). p.account < length keys) p records known) in
    λ i. record {
      order = get_or keys p.account [];
      account = get_or accounts (place i) [];
      contract = p.contract;
      quantity = p.quantity;
    } ∷ rest i

-- the order records of the positions under their orders' names are the numbered orders
pub order_records-numbered : (keys accounts : List (List ℕ)) (records : List NumberedPosition) → AreNumbered keys records
    → order_records accounts (named_positions keys records) ≡ numbered_orders keys accounts records
order_records-numbered keys accounts records was =
    ap (λ ks. map (order_record ks accounts) (named_positions keys records)) (sym was.accounts_are)
    ∙ numbered_by keys accounts records (names_apart keys records was) was.known

-- ---- one more record

module _ (keys accounts : List (List ℕ)) (order account : List ℕ) (agrees : Bool) where
  -- an earlier record of the order has another account exactly if there is such a record and the order's account does
  -- not agree
  changes : (records : List NumberedPosition) → All (λ (p : NumberedPosition). p.account < length keys) records
      → ((i : ℕ) → i < length keys → get_or keys i [] ≡ order → bytes_eq (get_or accounts i []) account ≡ agrees)
      → has_another_account (numbered_orders keys accounts records) order account
      ≡ (is_among (map (λ (p : PositionRecord). p.account) (named_positions keys records)) order && not agrees)
  changes [] known told = refl
  changes (p ∷ records) known told =
      let within = All-head (λ (q : NumberedPosition). q.account < length keys) p records known in
      let rest = changes records (All-tail (λ (q : NumberedPosition). q.account < length keys) p records known) told in
      elim (cases_Bool (bytes_eq (get_or keys p.account []) order)) [
        | inl same ↦
            let here = told p.account within (same_name (get_or keys p.account []) order same) in
            rw (name_sym order (get_or keys p.account []), same, here) refl
        | inr other ↦ rw (name_sym order (get_or keys p.account []), other) rest
      ]

-- ---- the account of an order

-- the order at an index has another account if this account is not at the index
pub of_another : (accounts : List (List ℕ)) (place : ℕ) (account : List ℕ) → place < length accounts
    → (slice_get accounts place ≡ Some account → ⊥) → is_of_another accounts place account ≡ true
of_another accounts place account within apart =
    let known : (place == length accounts) ≡ false = ne_eqb place (length accounts) (λ e. absurd (omega (arith, e, within))) in
    elim (cases_Bool (bytes_eq (get_or accounts place []) account)) [
      | inl same ↦ absurd (apart (slice_get-get_or accounts place [] within
          ∙ ap Some (same_name (get_or accounts place []) account same)))
      | inr other ↦ rw (known, other) refl
    ]

-- the order at an index has no other account if this account is at the index
pub of_same : (accounts : List (List ℕ)) (place : ℕ) (account : List ℕ) → slice_get accounts place ≡ Some account
    → is_of_another accounts place account ≡ false
of_same accounts place account there =
    let within = slice_get_within accounts place account there in
    let known : (place == length accounts) ≡ false = ne_eqb place (length accounts) (λ e. absurd (omega (arith, e, within))) in
    rw (known, name_there accounts place account there, itself account) refl

-- ---- the next record

-- a record that is rejected as a position under its order's name is rejected as an order
pub next_refused : (orders : List OrderRecord) (r : Fields) (e : PositionFault)
    → MatchBool (position.is_memory e) ⊤ (next_position ORDER_NAMES MAX_ORDERS (map under_order orders) r ≡ Err e)
    → MatchBool (is_memory (as_order_fault e)) ⊤ (next_order orders r ≡ Err (as_order_fault e))
unfolding next_order
next_refused orders r fault.OutOfMemory h = tt
next_refused orders r e h = rw h refl

module _ (keys keys' accounts : List (List ℕ)) (earlier : List NumberedPosition) (p : NumberedPosition) (r : Fields)
    (was : AreNumbered keys earlier) (each : length accounts ≡ length keys) (now : AreNumbered keys' (earlier ++ p ∷ []))
    (named : named_positions keys' (earlier ++ p ∷ []) ≡ named_positions keys earlier ++ named_position keys' p ∷ []) where
  abbrev order_here : List ℕ
  order_here = get_or keys' p.account []

  abbrev account_here : List ℕ
  account_here = text_at r 1

  abbrev accounts' : List (List ℕ)
  accounts' = accounts_with accounts p.account account_here

  within : p.account < length keys'
  within =
      let long : length (earlier ++ p ∷ []) ≡ length earlier + 1 = length-append earlier (p ∷ []) in
      subst (λ (q : NumberedPosition). q.account < length keys') (get_or-append_seam earlier p [] p)
      (now.known (length earlier) p (omega (arith, long)))

  more : keys' ≡ insert_key bytes_eq keys order_here
  more =
      now.accounts_are
      ∙ ap accounts_of named
      ∙ accounts_of-push (named_positions keys earlier) (named_position keys' p)
      ∙ ap (λ ks. insert_key bytes_eq ks order_here) (sym was.accounts_are)

  among_same : is_among (map (λ (q : PositionRecord). q.account) (named_positions keys earlier)) order_here ≡ is_among keys order_here
  among_same =
      sym (is_among-distinct (map (λ (q : PositionRecord). q.account) (named_positions keys earlier)) order_here)
      ∙ ap (λ ks. is_among ks order_here) (sym was.accounts_are)

  -- a known order keeps its index, and a new order gets the next one
  old_place : is_among keys order_here ≡ true → (keys' ≡ keys) × (p.account < length keys) × ((p.account == length accounts) ≡ false)
  old_place old =
      let same : keys' ≡ keys = more ∙ (rw old refl) in
      let below : p.account < length keys = subst (λ ks. p.account < length ks) same within in
      (same, below, ne_eqb p.account (length accounts) (λ e. absurd (omega (arith, e, below, each))))

  new_place : is_among keys order_here ≡ false → (keys' ≡ keys ++ order_here ∷ []) × ((p.account == length accounts) ≡ true)
  new_place new =
      let longer : keys' ≡ keys ++ order_here ∷ [] = more ∙ (rw new refl) in
      let long : length keys' ≡ length keys + 1 = ap length longer ∙ length-append keys (order_here ∷ []) in
      let not_below : p.account < length keys → ⊥ = λ below.
      let here : get_or keys p.account [] ≡ order_here =
      sym (get_or_append_left keys (order_here ∷ []) [] p.account below) ∙ ap (λ ks. get_or ks p.account []) (sym longer) in
      both_ways (is_among keys order_here) new
      (among_at keys p.account order_here (slice_get-get_or keys p.account [] below ∙ ap Some here)) in
      (longer, eq-eqb p.account (length accounts) (let in_all = within in omega (arith, in_all, long, not_below, each)))

  -- the order's index is a known one, or the next one
  pub place_known : p.account ≤ length accounts
  place_known =
      elim (cases_Bool (is_among keys order_here)) [
        | inl old ↦ let below = (old_place old).1 in omega (arith, each, below)
        | inr new ↦ let last = eqb-true p.account (length accounts) (new_place new).1 in omega (arith, last)
      ]

  -- an earlier record of the order has another account exactly if the order has another account
  changes_at : has_another_account (numbered_orders keys accounts earlier) order_here account_here
      ≡ is_of_another accounts p.account account_here
  changes_at =
      elim (cases_Bool (is_among keys order_here)) [
        | inl old ↦
            let place = old_place old in
            changes keys accounts order_here account_here (bytes_eq (get_or accounts p.account []) account_here) earlier was.known
            (λ i below is. ap (λ j. bytes_eq (get_or accounts j []) account_here)
            (same_place keys i p.account (names_apart keys earlier was) below place.1 (is ∙ ap (λ ks. get_or ks p.account []) place.0)))
            ∙ rw (among_same, old, place.2) refl
        | inr new ↦
            changes keys accounts order_here account_here true earlier was.known (λ i below is.
            absurd (both_ways (is_among keys order_here) new
            (among_at keys i order_here (slice_get-get_or keys i [] below ∙ ap Some is))))
            ∙ rw (among_same, new, (new_place new).1) refl
      ]

  -- each order has an account
  pub each_now : length accounts' ≡ length keys'
  each_now =
      elim (cases_Bool (is_among keys order_here)) [
        | inl old ↦ let place = old_place old in rw place.2 (each ∙ sym (ap length place.0))
        | inr new ↦
            let place = new_place new in
            rw place.1 (length-append accounts (account_here ∷ []) ∙ ap (λ n. n + 1) each
            ∙ sym (ap length place.0 ∙ length-append keys (order_here ∷ [])))
      ]

  -- if the record has its order's account, that account is at the order's index
  account_taken : is_of_another accounts p.account account_here ≡ false → get_or accounts' p.account [] ≡ account_here
  account_taken same =
      elim (cases_Bool (p.account == length accounts)) [
        | inl last ↦
            let e : p.account ≡ length accounts = eqb-true p.account (length accounts) last in
            rw (last, e) (get_or-append_seam accounts account_here [] [])
        | inr known ↦ rw known (same_name (get_or accounts p.account []) account_here (not-false _ (rw known at same)))
      ]

  -- the earlier records keep their meaning
  given_stays : (i : ℕ) → i < length accounts → get_or accounts' i [] ≡ get_or accounts i []
  given_stays i below =
      elim (cases_Bool (p.account == length accounts)) [
        | inl last ↦ rw last (get_or_append_left accounts (account_here ∷ []) [] i below)
        | inr known ↦ rw known refl
      ]

  earlier_same : (records : List NumberedPosition) → All (λ (q : NumberedPosition). q.account < length keys) records
      → numbered_orders keys' accounts' records ≡ numbered_orders keys accounts records
  earlier_same [] known = refl
  earlier_same (q ∷ records) known =
      let below = All-head (λ (q : NumberedPosition). q.account < length keys) q records known in
      let rest = earlier_same records (All-tail (λ (q : NumberedPosition). q.account < length keys) q records known) in
      let name : get_or keys' q.account [] ≡ get_or keys q.account [] =
      ap (λ ks. get_or ks q.account []) more ∙ stays keys order_here q.account below in
      let given = given_stays q.account (omega (arith, below, each)) in
      λ i. record { order = name i; account = given i; contract = q.contract; quantity = q.quantity } ∷ rest i

  -- the numbered records denote one order record more
  pub orders_now : numbered_orders keys' accounts' (earlier ++ p ∷ [])
      ≡ numbered_orders keys accounts earlier ++ numbered_order keys' accounts' p ∷ []
  orders_now =
      map-append (numbered_order keys' accounts') earlier (p ∷ [])
      ∙ ap (λ front. front ++ numbered_order keys' accounts' p ∷ []) (earlier_same earlier was.known)

  module _ (found : next_position ORDER_NAMES MAX_ORDERS (named_positions keys earlier) r ≡ Ok (named_position keys' p)) where
    next_behind : next_order (numbered_orders keys accounts earlier) r
        ≡ order_behind (length earlier + 1) (numbered_orders keys accounts earlier) account_here (Ok (named_position keys' p))
    unfolding next_order
    next_behind = rw (numbered_under keys accounts earlier, length-map earlier (numbered_order keys accounts), found) refl

    pub next_second : is_of_another accounts p.account account_here ≡ true
        → next_order (numbered_orders keys accounts earlier) r ≡ Err (order.SecondAccount (length earlier + 1))
    next_second other = next_behind ∙ rw (changes_at, other) refl

    pub next_read : is_of_another accounts p.account account_here ≡ false
        → next_order (numbered_orders keys accounts earlier) r ≡ Ok (numbered_order keys' accounts' p)
    next_read same = next_behind ∙ rw (changes_at, same, account_taken same) refl
