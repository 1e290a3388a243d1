-- The holdings of an order's account with the order, from the entries of the order's records.
use Rattle.std.proofs.Common.{◌≡◌, ℕ, suc, ◌+◌, Bool, true, false, cond, ◌&&◌, List, [], ◌∷◌, ◌++◌, length, map, filter}
use Rattle.std.proofs.Common.{refl, sym, ap, ◌∙◌, arith}
use Rattle.std.specs.Prelude.{pos, ◌+ℤ◌, ◌==◌, bytes_eq, slice_get, All, Some}
use Rattle.std.proofs.lemmas.Bool.{and_right, false_from_ne_true, true≢false}
use Rattle.std.proofs.lemmas.Map.Keys.{any_passes_from_place}
use Rattle.std.proofs.lemmas.List.Elements.{filter-append}
use Rattle.span_money.specs.Numbers.{int_sum_by}
use Rattle.span_tables.specs.Names.{has_repeat}
use Rattle.span_tables.specs.Net.{is_held, net_of}
use Rattle.span_tables.specs.Orders.{account_of_order, as_position, holdings_with, net_among, positions_of_order}
use Rattle.span_tables.specs.near.Orders.{under_order}
use Rattle.span_tables.specs.declared.portfolios.Holding.{Holding}
use Rattle.span_tables.specs.declared.records.Contract.{Contract}
use Rattle.span_tables.specs.declared.records.OrderRecord.{OrderRecord}
use Rattle.span_tables.specs.declared.records.PositionRecord.{PositionRecord}
use Rattle.span_tables.proofs.MergedLaws.{int_sum_by-append, same_numbered}
use Rattle.span_tables.proofs.NameLemmas.{same_name}
use Rattle.span_tables.proofs.SumLaws.{int_sum_by-if}
use Rattle.binding.specs.Binding.{is_known, known_records}
use Rattle.binding.specs.near.Holdings.{ids_of}
use Rattle.binding.specs.near.Ledgers.{held_entries, held_entry}
use Rattle.binding.specs.near.Nets.{entries_of, entry_holdings, entry_net}
use Rattle.binding.specs.declared.ledgers.Entry.{Entry}
use Rattle.binding.proofs.AccountLaws.{bytes_eq-flip, bytes_eq-refl}
use Rattle.binding.proofs.HoldingLaws.{held_by_entries, net_is}

-- ---- the records of an order

net_push : (p : PositionRecord) (positions : List PositionRecord) (account contract : List ℕ)
    → net_of (p ∷ positions) account contract
    ≡ cond (bytes_eq p.account account && bytes_eq p.contract contract) p.quantity (pos 0) +ℤ net_of positions account contract
net_push p positions account contract =
    int_sum_by-if (λ (q : PositionRecord). q.quantity) (bytes_eq p.account account && bytes_eq p.contract contract) p
    (filter (λ (q : PositionRecord). bytes_eq q.account account && bytes_eq q.contract contract) positions)

module _ (all : List OrderRecord) (order : List ℕ) where
  abbrev account : List ℕ
  account = account_of_order all order

  -- if all records of an order have its account, their nets are the nets under the order's name
  nets_under : (contract : List ℕ) (xs : List OrderRecord) → All (λ r. r.account ≡ account_of_order all r.order) xs
      → net_of (positions_of_order xs order) account contract ≡ net_of (map under_order xs) order contract
  nets_under contract [] one = refl
  nets_under contract (r ∷ xs) one =
      by (bytes_eq r.order order) refl (nets_under contract xs (λ k d lt. one (suc k) d (omega (arith, lt))))
    where
      mine : List OrderRecord
      mine = filter (λ (q : OrderRecord). bytes_eq q.order order) xs

      under : List PositionRecord
      under = filter (λ (q : PositionRecord). bytes_eq q.account order && bytes_eq q.contract contract) (map under_order xs)

      by : (b : Bool) → bytes_eq r.order order ≡ b
          → net_of (map as_position mine) account contract ≡ net_of (map under_order xs) order contract
          → net_of (map as_position (cond b (r ∷ mine) mine)) account contract ≡ net_of (under_order r ∷ map under_order xs) order contract
      by true e more =
          let same : r.account ≡ account_of_order all order =
          one 0 r (omega arith) ∙ ap (account_of_order all) (same_name r.order order e) in
          let here : bytes_eq r.account account ≡ true = ap (bytes_eq r.account) (sym same) ∙ bytes_eq-refl r.account in
          net_push (as_position r) (map as_position mine) account contract
          ∙ ap (λ b. cond (b && bytes_eq r.contract contract) r.quantity (pos 0) +ℤ net_of (map as_position mine) account contract) here
          ∙ ap (λ z. cond (bytes_eq r.contract contract) r.quantity (pos 0) +ℤ z) more
          ∙ sym (net_push (under_order r) (map under_order xs) order contract
          ∙ ap (λ b. cond (b && bytes_eq r.contract contract) r.quantity (pos 0) +ℤ net_of (map under_order xs) order contract) e)
      by false e more =
          more ∙ ap (λ b. int_sum_by (λ (q : PositionRecord). q.quantity)
          (cond (b && bytes_eq r.contract contract) (under_order r ∷ under) under)) (sym e)

  -- the holdings of the account with the order are the holdings under the order's name with all records
  pub after_under : (contracts : List Contract) (before : List Holding) → All (λ r. r.account ≡ account_of_order all r.order) all
      → holdings_with contracts before (positions_of_order all order) (account_of_order all order)
      ≡ holdings_with contracts before (map under_order all) order
  after_under contracts before one =
      ap (filter is_held) (same_numbered
      (λ k x. net_among before k +ℤ net_of (positions_of_order all order) (account_of_order all order) x.id)
      (λ k x. net_among before k +ℤ net_of (map under_order all) order x.id) 0 contracts
      (λ k x e. ap (λ z. net_among before (0 + k) +ℤ z) (nets_under x.id all one)))

-- a record of an unknown contract counts in no net of a known one
known_net : (contracts : List Contract) (account : List ℕ) (k : ℕ) (x : Contract) → slice_get contracts k ≡ Some x
    → (positions : List PositionRecord) → net_of (known_records contracts positions) account x.id ≡ net_of positions account x.id
known_net contracts owner k x e [] = refl
known_net contracts owner k x e (p ∷ positions) = by (is_known contracts p) refl (known_net contracts owner k x e positions)
  where
    known : List PositionRecord
    known = known_records contracts positions

    mine : List PositionRecord
    mine = filter (λ (q : PositionRecord). bytes_eq q.account owner && bytes_eq q.contract x.id) positions

    by : (b : Bool) → is_known contracts p ≡ b → net_of known owner x.id ≡ net_of positions owner x.id
        → net_of (cond b (p ∷ known) known) owner x.id ≡ net_of (p ∷ positions) owner x.id
    by true t more =
        net_push p known owner x.id
        ∙ ap (λ z. cond (bytes_eq p.account owner && bytes_eq p.contract x.id) p.quantity (pos 0) +ℤ z) more
        ∙ sym (net_push p positions owner x.id)
    by false t more =
        let other : bytes_eq p.contract x.id ≡ false = false_from_ne_true (bytes_eq p.contract x.id) (λ same.
        true≢false (sym (any_passes_from_place (λ (y : Contract). bytes_eq y.id p.contract) contracts k x e
        (bytes_eq-flip x.id p.contract ∙ same)) ∙ t)) in
        more ∙ ap (λ b. int_sum_by (λ (q : PositionRecord). q.quantity) (cond b (p ∷ mine) mine))
        (sym (and_right (bytes_eq p.account owner) (bytes_eq p.contract x.id) other))

-- records of unknown contracts change no holdings
pub known_count : (contracts : List Contract) (before : List Holding) (positions : List PositionRecord) (account : List ℕ)
    → holdings_with contracts before (known_records contracts positions) account ≡ holdings_with contracts before positions account
known_count contracts before positions account =
    ap (filter is_held) (same_numbered
    (λ k x. net_among before k +ℤ net_of (known_records contracts positions) account x.id)
    (λ k x. net_among before k +ℤ net_of positions account x.id) 0 contracts
    (λ k x e. ap (λ z. net_among before (0 + k) +ℤ z) (known_net contracts account k x e positions)))

-- ---- entries

-- the net of entries appended to others
entry_net-append : (front back : List Entry) (c : ℕ) → entry_net (front ++ back) c ≡ entry_net front c +ℤ entry_net back c
entry_net-append front back c =
    let test = λ (e : Entry). e.contract == c in
    ap (int_sum_by (λ (e : Entry). e.quantity)) (filter-append test front back)
    ∙ int_sum_by-append (λ (e : Entry). e.quantity) (filter test front) (filter test back)

held_net : (holdings : List Holding) (c : ℕ) → entry_net (held_entries holdings) c ≡ net_among holdings c
held_net [] c = refl
held_net (h ∷ holdings) c =
    int_sum_by-if (λ (e : Entry). e.quantity) (h.contract == c) (held_entry h)
    (filter (λ (e : Entry). e.contract == c) (held_entries holdings))
    ∙ ap (λ z. cond (h.contract == c) h.net (pos 0) +ℤ z) (held_net holdings c)
    ∙ sym (int_sum_by-if (λ (x : Holding). x.net) (h.contract == c) h (filter (λ (x : Holding). x.contract == c) holdings))

-- the holdings of an account with added positions are the holdings of the entries of both
pub merged_are : (contracts : List Contract) (before : List Holding) (more : List PositionRecord) (account : List ℕ)
    → has_repeat (λ y z. bytes_eq y.id z.id) contracts ≡ false
    → holdings_with contracts before more account
    ≡ entry_holdings (length contracts) (held_entries before ++ entries_of (ids_of contracts) more account)
merged_are contracts before more account h =
    let entries = entries_of (ids_of contracts) more account in
    held_by_entries (λ k x. net_among before k +ℤ net_of more account x.id) (held_entries before ++ entries) contracts
    (λ k x e.
    ap (λ z. net_among before k +ℤ z) (net_is contracts account k x h e more)
    ∙ sym (entry_net-append (held_entries before) entries k ∙ ap (λ z. z +ℤ entry_net entries k) (held_net before k)))
