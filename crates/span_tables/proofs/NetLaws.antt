-- A contract that is not held adds nothing to a sum over the contracts of a commodity.
use Rattle.std.proofs.Common.{◌≡◌, ℕ, suc, zero, ◌+◌, Bool, true, false, cond, not, List, [], ◌∷◌}
use Rattle.std.proofs.Common.{◌++◌, length, Some, refl, sym, ap, ◌∙◌, arith, subst, filter, map}
use Rattle.std.specs.Prelude.{ℤ, pos, negsuc, ◌+ℤ◌, nat_abs, ◌==◌, filter_map, option_map, slice_get, bytes_eq}
use Rattle.std.specs.List.{enumerate_from, cons_option}
use Rattle.std.proofs.lemmas.Int.{ints}
use Rattle.std.proofs.lemmas.Bool.Decides.{nat_tests}
use Rattle.std.proofs.lemmas.List.{append_assoc}
use Rattle.span_money.specs.Numbers.{int_sum_by}
use Rattle.span_tables.specs.Net.{HeldContract, net_of, is_held, holding_of, holdings_of, held_contract, held_of}
use Rattle.span_tables.specs.declared.records.Contract.{Contract}
use Rattle.span_tables.specs.declared.records.PositionRecord.{PositionRecord}
use Rattle.span_tables.specs.declared.portfolios.Holding.{Holding}
use Rattle.span_tables.proofs.SumLaws.{int_sum_by-if}

-- the element after a prefix
pub get_behind : {A : Type 0} (front : List A) (x : A) (xs : List A) → slice_get (front ++ x ∷ xs) (length front) ≡ Some x
get_behind [] x xs = refl
get_behind (y ∷ front) x xs = get_behind front x xs

length_push : {A : Type 0} (front : List A) (x : A) → length (front ++ x ∷ []) ≡ length front + 1
length_push [] x = refl
length_push (y ∷ front) x = let h = length_push front x in omega (arith, h)

-- only 0 has size 0
pub size_zero : (z : ℤ) → not (nat_abs z == 0) ≡ false → z ≡ pos 0
size_zero (pos zero) e = refl
size_zero (pos (suc n)) e = grind (arith, nat_tests, e)
size_zero (negsuc n) e = grind (arith, nat_tests, e)

module _ (f : Contract → ℤ → ℤ) (adds_nothing : (x : Contract) → f x (pos 0) ≡ pos 0) (positions : List PositionRecord)
    (account commodity : List ℕ) where
  net : Contract → ℤ
  net x = net_of positions account x.id

  term : HeldContract → ℤ
  term h = f h.contract h.net

  is_of : Contract → Bool
  is_of x = bytes_eq x.commodity commodity

  held_rest : List Contract → List (ℕ × Contract) → List HeldContract
  held_rest all numbered =
      filter (λ h. bytes_eq (h.contract).commodity commodity)
      (filter_map (held_contract all) (filter is_held (map (holding_of positions account) numbered)))

  zero_if : (b : Bool) (x : Contract) (q : ℤ) → q ≡ pos 0 → cond b (f x q) (pos 0) ≡ pos 0
  zero_if true x q e = ap (f x) e ∙ adds_nothing x
  zero_if false x q e = refl

  -- the next contract, which is held or not
  next_held : (b : Bool) (all : List Contract) (n : ℕ) (x : Contract) (hs : List Holding) (rest : ℤ)
      → is_held (record { contract = n; net = net x }) ≡ b → slice_get all n ≡ Some x
      → int_sum_by term (filter (λ h. bytes_eq (h.contract).commodity commodity) (filter_map (held_contract all) hs)) ≡ rest
      → int_sum_by term (filter (λ h. bytes_eq (h.contract).commodity commodity)
      (filter_map (held_contract all) (cond b (record { contract = n; net = net x } ∷ hs) hs)))
      ≡ cond (is_of x) (f x (net x)) (pos 0) +ℤ rest
  unfolding term is_of
  next_held true all n x hs rest is got more =
      let it : HeldContract = record { contract = x; net = net x } in
      let others = filter (λ (h : HeldContract). bytes_eq (h.contract).commodity commodity) (filter_map (held_contract all) hs) in
      ap (λ o. int_sum_by term (filter (λ (h : HeldContract). bytes_eq (h.contract).commodity commodity)
      (cons_option (option_map (λ (y : Contract). (let k : HeldContract = record { contract = y; net = net x } in k)) o)
      (filter_map (held_contract all) hs)))) got
      ∙ int_sum_by-if term (is_of x) it others
      ∙ ap (λ z. cond (is_of x) (f x (net x)) (pos 0) +ℤ z) more
  next_held false all n x hs rest is got more =
      let none = zero_if (is_of x) x (net x) (size_zero (net x) is) in
      omega (arith, ints, more, none)

  sum_rest : (front xs all : List Contract) (n : ℕ) → all ≡ front ++ xs → n ≡ length front
      → int_sum_by term (held_rest all (enumerate_from n xs)) ≡ int_sum_by (λ x. f x (net x)) (filter is_of xs)
  unfolding held_rest net
  sum_rest front [] all n e k = refl
  sum_rest front (x ∷ xs) all n e k =
      let got : slice_get all n ≡ Some x = subst (λ m. slice_get all m ≡ Some x) (sym k)
      (subst (λ zs. slice_get zs (length front) ≡ Some x) (sym e) (get_behind front x xs)) in
      let more = sum_rest (front ++ x ∷ []) xs all (n + 1) (e ∙ sym (append_assoc front (x ∷ []) xs))
      (let h = length_push front x in omega (arith, h, k)) in
      next_held (is_held (record { contract = n; net = net x })) all n x
      (filter is_held (map (holding_of positions account) (enumerate_from (n + 1) xs))) _ refl got more
      ∙ sym (int_sum_by-if (λ y. f y (net y)) (is_of x) x (filter is_of xs))

  -- a sum over the held contracts of a commodity equals the sum over all its contracts
  pub sum_of_held : (contracts : List Contract)
      → int_sum_by (λ h. f h.contract h.net) (held_of contracts (holdings_of contracts positions account) commodity)
      ≡ int_sum_by (λ x. f x (net_of positions account x.id)) (filter (λ x. bytes_eq x.commodity commodity) contracts)
  unfolding held_of held_rest term is_of net
  sum_of_held contracts = sum_rest [] contracts contracts 0 refl refl
