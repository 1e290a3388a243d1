-- Lemmas about nets by contract number.
use Rattle.std.proofs.Common.{◌≡◌, ℕ, zero, suc, ◌+◌, ◌*◌, ◌<◌, ◌≤◌, ◌⊎◌, Bool, true, false, cond, ◌==◌, List, [], ◌∷◌, ◌++◌, length}
use Rattle.std.proofs.Common.{get_or, set, take, filter, map, refl, sym, ap, ◌∙◌, inl, inr, arith}
use Rattle.std.specs.Prelude.{ℤ, pos, ◌+ℤ◌, nat_abs, replicate}
use Rattle.std.specs.List.{range_with_len}
use Rattle.std.proofs.lemmas.Int.{ints}
use Rattle.std.proofs.lemmas.List.{append-nil, length-replicate, take_more, length-set}
use Rattle.std.proofs.lemmas.List.{get_or-set_same, get_or-set_other, same_lists, set_past}
use Rattle.std.proofs.lemmas.List.Elements.{filter-append}
use Rattle.std.proofs.lemmas.List.FromFn.{get_or-map-range_with_len, length-map-range_with_len}
use Rattle.std.proofs.lemmas.List.Sums.{fold_push}
use Rattle.std.proofs.lemmas.Bool.{not_from_true, cases_eq, cases_lt, eq-eqb, ne_eqb}
use Rattle.span_money.specs.Numbers.{int_sum_by}
use Rattle.span_tables.specs.Net.{is_held}
use Rattle.span_tables.specs.declared.limits.TheConstants.{MAX_QUANTITY}
use Rattle.span_tables.specs.declared.portfolios.Holding.{Holding}
use Rattle.binding.specs.near.Nets.{entry_net, entry_holdings, holding_at, holdings_from}
use Rattle.binding.specs.declared.ledgers.Entry.{Entry}

-- a sum over the elements that pass a test, after one more element
pub int_sum_by-filter_push : {X : Type 0} (f : X → ℤ) (p : X → Bool) (xs : List X) (x : X)
    → int_sum_by f (filter p (xs ++ x ∷ [])) ≡ cond (p x) (int_sum_by f (filter p xs) +ℤ f x) (int_sum_by f (filter p xs))
int_sum_by-filter_push {X} f p xs x = ap (int_sum_by f) (filter-append p xs (x ∷ [])) ∙ by (p x)
  where
    by : (b : Bool) → int_sum_by f (filter p xs ++ cond b (x ∷ []) [])
        ≡ cond b (int_sum_by f (filter p xs) +ℤ f x) (int_sum_by f (filter p xs))
    by true = fold_push (λ a (y : X). a +ℤ f y) (pos 0) (filter p xs) x
    by false = ap (int_sum_by f) (append-nil (filter p xs))

module _ (n i : ℕ) (entries : List Entry) (d : Entry) where
  e : Entry
  e = get_or entries i d

  table : List Entry → List ℤ
  table es = map (entry_net es) (range_with_len 0 n)

  long : (es : List Entry) → length (table es) ≡ n
  unfolding table
  long es = length-map-range_with_len (entry_net es) 0 n

  at : (es : List Entry) (k : ℕ) (d : ℤ) → k < n → get_or (table es) k d ≡ entry_net es k
  unfolding table
  at es k d h = get_or-map-range_with_len (entry_net es) 0 n k k d h (omega arith)

  step : i < length entries → (k : ℕ)
      → entry_net (take (i + 1) entries) k ≡ cond (e.contract == k) (entry_net (take i entries) k +ℤ e.quantity)
      (entry_net (take i entries) k)
  unfolding e
  step lt k =
      ap (λ es. entry_net es k) (take_more entries i d lt)
      ∙ int_sum_by-filter_push (λ (x : Entry). x.quantity) (λ (x : Entry). x.contract == k) (take i entries) (get_or entries i d)

  -- the table of nets after one more entry
  pub table_more : (nets : List ℤ) → nets ≡ map (entry_net (take i entries)) (range_with_len 0 n) → i < length entries
      → set nets (get_or entries i d).contract (get_or nets (get_or entries i d).contract (pos 0) +ℤ (get_or entries i d).quantity)
      ≡ map (entry_net (take (i + 1) entries)) (range_with_len 0 n)
  unfolding table e
  table_more nets are lt =
      ap (λ t. set t e.contract (get_or t e.contract (pos 0) +ℤ e.quantity)) are
      ∙ same_lists _ _ (size ∙ sym (long next)) (λ k z h. let h' : k < n = omega (arith, h, size) in by k z h' (cases_eq k e.contract))
    where
      before : List ℤ
      before = table (take i entries)

      next : List Entry
      next = take (i + 1) entries

      q : ℤ
      q = get_or before e.contract (pos 0) +ℤ e.quantity

      size : length (set before e.contract q) ≡ n
      size = length-set before e.contract q ∙ long (take i entries)

      by : (k : ℕ) (d : ℤ) → k < n → (k ≡ e.contract) ⊎ (k ≡ e.contract → ⊥)
          → get_or (set before e.contract q) k d ≡ get_or (table next) k d
      by k d h (inl same) =
          let h' : e.contract < length before = omega (arith, h, same, long (take i entries)) in
          ap (λ j. get_or (set before e.contract q) j d) same ∙ get_or-set_same before e.contract q d h'
          ∙ ap (λ j. get_or before j (pos 0) +ℤ e.quantity) (sym same)
          ∙ ap (λ z. z +ℤ e.quantity) (at (take i entries) k (pos 0) h)
          ∙ sym (step lt k ∙ ap (λ b. cond b (entry_net (take i entries) k +ℤ e.quantity) (entry_net (take i entries) k))
          (eq-eqb e.contract k (sym same)))
          ∙ sym (at next k d h)
      by k d h (inr other) =
          get_or-set_other before e.contract k q d other
          ∙ at (take i entries) k d h
          ∙ sym (step lt k ∙ ap (λ b. cond b (entry_net (take i entries) k +ℤ e.quantity) (entry_net (take i entries) k))
          (ne_eqb e.contract k (λ s. other (sym s))))
          ∙ sym (at next k d h)

-- the table of nets without entries
pub table_none : (n : ℕ) → replicate n (pos 0) ≡ map (entry_net []) (range_with_len 0 n)
table_none n = replicate-map n 0
  where
    replicate-map : (m a : ℕ) → replicate m (pos 0) ≡ map (entry_net []) (range_with_len a m)
    replicate-map zero a = refl
    replicate-map (suc m) a = ap (λ xs. pos 0 ∷ xs) (replicate-map m (a + 1))

-- a net grows by at most the quantity
pub small_more : (nets : List ℤ) (c i : ℕ) (q : ℤ) → nat_abs q ≤ MAX_QUANTITY
    → ((k : ℕ) → nat_abs (get_or nets k (pos 0)) ≤ i * MAX_QUANTITY)
    → (k : ℕ) → nat_abs (get_or (set nets c (get_or nets c (pos 0) +ℤ q)) k (pos 0)) ≤ (i + 1) * MAX_QUANTITY
small_more nets c i q small all k = by (cases_eq k c) (cases_lt c (length nets))
  where
    sum : ℤ
    sum = get_or nets c (pos 0) +ℤ q

    grown : (a b : ℤ) → nat_abs a ≤ i * MAX_QUANTITY → nat_abs b ≤ MAX_QUANTITY → nat_abs (a +ℤ b) ≤ (i + 1) * MAX_QUANTITY
    grown a b x y = omega (arith, ints)

    same : (a : ℤ) → nat_abs a ≤ i * MAX_QUANTITY → nat_abs a ≤ (i + 1) * MAX_QUANTITY
    same a x = omega (arith, ints)

    by : (k ≡ c) ⊎ (k ≡ c → ⊥) → (c < length nets) ⊎ (length nets ≤ c)
        → nat_abs (get_or (set nets c sum) k (pos 0)) ≤ (i + 1) * MAX_QUANTITY
    by (inl e) (inl lt) = rw (e, get_or-set_same nets c sum (pos 0) lt) (grown (get_or nets c (pos 0)) q (all c) small)
    by (inl e) (inr le) = rw (set_past nets c sum le) (same (get_or nets k (pos 0)) (all k))
    by (inr ne) z = rw (get_or-set_other nets c k sum (pos 0) ne) (same (get_or nets k (pos 0)) (all k))

-- a net of 0 is not held
pub is_held-eq : (h : Holding) → h.net ≡ pos 0 → is_held h ≡ false
is_held-eq h e = not_from_true (nat_abs h.net == 0) (eq-eqb (nat_abs h.net) 0 (ap nat_abs e))

-- nets of 0 are 0 at each index
pub nets_of_zero : (n k : ℕ) → get_or (replicate n (pos 0)) k (pos 0) ≡ pos 0
nets_of_zero zero k = refl
nets_of_zero (suc n) zero = refl
nets_of_zero (suc n) (suc k) = nets_of_zero n k

pub small_none : (nets : List ℤ) → nets ≡ replicate (length nets) (pos 0) → (k : ℕ) → nat_abs (get_or nets k (pos 0)) ≤ 0
small_none nets e k =
    let z : get_or nets k (pos 0) ≡ pos 0 = ap (λ xs. get_or xs k (pos 0)) e ∙ nets_of_zero (length nets) k in rw z (omega arith)

-- the holdings of a table of nets
same_on_range : {A : Type 0} (f g : ℕ → A) (a n : ℕ) → ((k : ℕ) → a ≤ k → k < a + n → f k ≡ g k)
    → map f (range_with_len a n) ≡ map g (range_with_len a n)
same_on_range f g a zero h = refl
same_on_range f g a (suc n) h =
    let here : f a ≡ g a = h a (omega arith) (omega arith) in
    let rest = same_on_range f g (a + 1) n (λ k x y. h k (omega (arith, x)) (omega (arith, y))) in
    λ i. here i ∷ rest i

pub holdings_in_table : (n : ℕ) (entries : List Entry) (nets : List ℤ) → nets ≡ map (entry_net entries) (range_with_len 0 n)
    → holdings_from nets (length nets) ≡ entry_holdings n entries
unfolding entry_holdings
holdings_in_table n entries nets e =
    let size : length nets ≡ n = ap length e ∙ length-map-range_with_len (entry_net entries) 0 n in
    let at : (k : ℕ) → k < n → get_or nets k (pos 0) ≡ entry_net entries k = λ k h. ap (λ xs. get_or xs k (pos 0)) e
    ∙ get_or-map-range_with_len (entry_net entries) 0 n k k (pos 0) h (omega arith) in
    ap (λ m. holdings_from nets m) size
    ∙ ap (filter is_held) (same_on_range (holding_at nets) (λ c. record { contract = c; net = entry_net entries c }) 0 n
    (λ k x y. let h : k < n = omega (arith, y) in ap (holding_with k) (at k h)))
  where
    holding_with : ℕ → ℤ → Holding
    holding_with k z = record { contract = k; net = z }

-- the table of an account's entries, starting from nets of 0
module _ (n : ℕ) (entries ledger : List Entry) (zeros nets : List ℤ) (cleared : zeros ≡ replicate n (pos 0)) (is : entries ≡ ledger)
    (added : nets ≡ map (entry_net entries) (range_with_len 0 (length zeros))) where
  table_is : nets ≡ map (entry_net ledger) (range_with_len 0 n)
  table_is =
      added ∙ ap (λ es. map (entry_net es) (range_with_len 0 (length zeros))) is
      ∙ ap (λ m. map (entry_net ledger) (range_with_len 0 m)) (ap length cleared ∙ length-replicate n (pos 0))

  pub table_holds : holdings_from nets (length nets) ≡ entry_holdings n ledger
  table_holds = holdings_in_table n ledger nets table_is
