-- Lemmas that connect the code of binding to the definitions.
use Rattle.std.proofs.Common.{◌≡◌, ℕ, zero, suc, ◌+◌, ◌⊎◌, Bool, true, false, cond, not, ◌&&◌, List, []}
use Rattle.std.proofs.Common.{◌∷◌, length, filter, map, Some, slice_get, refl, sym, ap, subst, ◌∙◌, inl, inr, arith}
use Rattle.std.specs.Prelude.{ℤ, pos, ◌+ℤ◌, bytes_eq, ◌==◌}
use Rattle.std.specs.List.{list_any, enumerate_from, range_with_len, position_or_len}
use Rattle.std.proofs.lemmas.Bool.{cases_eq, or_parts, eq-eqb, ne_eqb}
use Rattle.span_money.specs.Numbers.{int_sum_by}
use Rattle.span_tables.specs.Names.{has_repeat}
use Rattle.span_tables.specs.Net.{net_of, is_held, holdings_of}
use Rattle.span_tables.specs.declared.portfolios.Holding.{Holding}
use Rattle.span_tables.specs.declared.records.Contract.{Contract}
use Rattle.span_tables.specs.declared.records.PositionRecord.{PositionRecord}
use Rattle.span_tables.proofs.MergedLaws.{held_of_all, numbered}
use Rattle.span_tables.proofs.SumLaws.{int_sum_by-if}
use Rattle.span_tables.proofs.NameLemmas.{same_name}
use Rattle.binding.specs.near.Nets.{entry_of, entries_of, entry_net, entry_holdings}
use Rattle.binding.specs.near.Holdings.{ids_of}
use Rattle.binding.specs.declared.ledgers.Entry.{Entry}

-- ---- contracts by number

apart_head : (x : Contract) (xs : List Contract) (k : ℕ) (y : Contract) → list_any (λ z. bytes_eq x.id z.id) xs ≡ false
    → slice_get xs k ≡ Some y → bytes_eq x.id y.id ≡ false
apart_head x [] k y h e = cc
apart_head x (z ∷ xs) zero y h e =
    let same : z ≡ y = cc in subst (λ w. bytes_eq x.id w.id ≡ false) same
    (or_parts (bytes_eq x.id z.id) (list_any (λ w. bytes_eq x.id w.id) xs) h).0
apart_head x (z ∷ xs) (suc k) y h e = apart_head x xs k y (or_parts (bytes_eq x.id z.id) (list_any (λ w. bytes_eq x.id w.id) xs) h).1 e

eqb_up : (a b : ℕ) → (1 + a == suc b) ≡ (a == b)
eqb_up a b = by (cases_eq a b)
  where
    by : (a ≡ b) ⊎ (a ≡ b → ⊥) → (1 + a == suc b) ≡ (a == b)
    by (inl e) = eq-eqb (1 + a) (suc b) (omega (arith, e)) ∙ sym (eq-eqb a b e)
    by (inr n) = ne_eqb (1 + a) (suc b) (λ e. n (omega (arith, e))) ∙ sym (ne_eqb a b n)

-- a name has number k exactly if it is the id of contract k
pub number_is : (contracts : List Contract) (name : List ℕ) (k : ℕ) (x : Contract)
    → has_repeat (λ y z. bytes_eq y.id z.id) contracts ≡ false → slice_get contracts k ≡ Some x
    → (position_or_len (bytes_eq name) (ids_of contracts) == k) ≡ bytes_eq name x.id
number_is [] name k x h e = cc
number_is (y ∷ contracts) name zero x h e = let same : y ≡ x = cc in by (bytes_eq name y.id) refl ∙ ap (λ z. bytes_eq name z.id) same
  where
    by : (b : Bool) → bytes_eq name y.id ≡ b → (cond (not b) (1 + position_or_len (bytes_eq name) (ids_of contracts)) 0 == 0) ≡ b
    by true t = refl
    by false t = ne_eqb (1 + position_or_len (bytes_eq name) (ids_of contracts)) 0 (λ z. omega (arith, z))
number_is (y ∷ contracts) name (suc k) x h e = by (bytes_eq name y.id) refl (number_is contracts name k x parts.1 e)
  where
    parts : (list_any (λ z. bytes_eq y.id z.id) contracts ≡ false) × (has_repeat (λ z w. bytes_eq z.id w.id) contracts ≡ false)
    parts = or_parts (list_any (λ z. bytes_eq y.id z.id) contracts) (has_repeat (λ z w. bytes_eq z.id w.id) contracts) h

    rest : ℕ
    rest = position_or_len (bytes_eq name) (ids_of contracts)

    by : (b : Bool) → bytes_eq name y.id ≡ b → (rest == k) ≡ bytes_eq name x.id
        → (cond (not b) (1 + rest) 0 == suc k) ≡ bytes_eq name x.id
    by true t more =
        let other : bytes_eq name x.id ≡ false =
        subst (λ z. bytes_eq z x.id ≡ false) (sym (same_name name y.id t)) (apart_head y contracts k x parts.0 e) in
        ne_eqb 0 (suc k) (λ z. omega (arith, z)) ∙ sym other
    by false t more = eqb_up rest k ∙ more

-- the net of an account's entries in contract k
pub net_is : (contracts : List Contract) (account : List ℕ) (k : ℕ) (x : Contract)
    → has_repeat (λ y z. bytes_eq y.id z.id) contracts ≡ false → slice_get contracts k ≡ Some x
    → (positions : List PositionRecord) → net_of positions account x.id
    ≡ entry_net (entries_of (ids_of contracts) positions account) k
net_is contracts account k x h e [] = refl
net_is contracts account k x h e (p ∷ positions) = by (bytes_eq p.account account) (net_is contracts account k x h e positions)
  where
    ids : List (List ℕ)
    ids = ids_of contracts

    rest : List PositionRecord
    rest = filter (λ q. bytes_eq q.account account) positions

    chosen : List PositionRecord
    chosen = filter (λ q. bytes_eq q.account account && bytes_eq q.contract x.id) positions

    by : (b : Bool) → net_of positions account x.id ≡ entry_net (entries_of ids positions account) k
        → int_sum_by (λ q. q.quantity) (cond (b && bytes_eq p.contract x.id) (p ∷ chosen) chosen)
        ≡ entry_net (map (entry_of ids) (cond b (p ∷ rest) rest)) k
    by true more =
        int_sum_by-if (λ (q : PositionRecord). q.quantity) (bytes_eq p.contract x.id) p chosen
        ∙ ap (λ z. cond (bytes_eq p.contract x.id) p.quantity (pos 0) +ℤ z) more
        ∙ ap (λ t. cond t p.quantity (pos 0) +ℤ entry_net (map (entry_of ids) rest) k) (sym (number_is contracts p.contract k x h e))
        ∙ sym (int_sum_by-if (λ (q : Entry). q.quantity) (position_or_len (bytes_eq p.contract) ids == k) (entry_of ids p)
        (filter (λ (q : Entry). q.contract == k) (map (entry_of ids) rest)))
    by false more = more

same_holdings : (net : ℕ → Contract → ℤ) (es : List Entry) (a : ℕ) (xs : List Contract)
    → ((k : ℕ) (x : Contract) → slice_get xs k ≡ Some x → net (a + k) x ≡ entry_net es (a + k))
    → map (numbered net) (enumerate_from a xs)
    ≡ map (λ c. record { contract = c; net = entry_net es c }) (range_with_len a (length xs))
same_holdings net es a [] h = refl
same_holdings net es a (x ∷ xs) h =
    let zero_more : a + 0 ≡ a = omega arith in
    let here : net a x ≡ entry_net es a = ap (λ n. net n x) (sym zero_more) ∙ h 0 x refl ∙ ap (entry_net es) zero_more in
    let rest = same_holdings net es (a + 1) xs (λ k y e.
    let up : a + 1 + k ≡ a + suc k = omega arith in
    ap (λ n. net n y) up ∙ h (suc k) y e ∙ ap (entry_net es) (sym up)) in
    λ i. (let it : Holding = record { contract = a; net = here i } in it) ∷ rest i

-- holdings from nets that equal the nets of entries
pub held_by_entries : (net : ℕ → Contract → ℤ) (es : List Entry) (contracts : List Contract)
    → ((k : ℕ) (x : Contract) → slice_get contracts k ≡ Some x → net k x ≡ entry_net es k)
    → held_of_all net 0 contracts ≡ entry_holdings (length contracts) es
unfolding entry_holdings
held_by_entries net es contracts h =
    ap (filter is_held) (same_holdings net es 0 contracts (λ k x e.
    let same : k ≡ 0 + k = omega arith in ap (λ n. net n x) (sym same) ∙ h k x e ∙ ap (entry_net es) same))

-- an account's holdings are the holdings of its entries
pub holdings_are : (contracts : List Contract) (positions : List PositionRecord) (account : List ℕ)
    → has_repeat (λ y z. bytes_eq y.id z.id) contracts ≡ false
    → holdings_of contracts positions account ≡ entry_holdings (length contracts) (entries_of (ids_of contracts) positions account)
holdings_are contracts positions account h =
    held_by_entries (λ k x. net_of positions account x.id) (entries_of (ids_of contracts) positions account) contracts
    (λ k x e. net_is contracts account k x h e positions)
