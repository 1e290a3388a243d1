-- Lemmas about holdings by increasing contract number, and a search among them.
use Rattle.std.proofs.Common.{◌≡◌, ℕ, zero, suc, ◌+◌, ◌<◌, ◌≤◌, Bool, true, false, cond, ◌||◌, ◌&&◌}
use Rattle.std.proofs.Common.{List, [], ◌∷◌, length, get_or, filter, map, Ok, Err, refl, sym, ap, subst, ◌∙◌, arith}
use Rattle.std.specs.Prelude.{ℤ, pos, ◌+ℤ◌, ◌==◌, nat_abs, nat_lt, All}
use Rattle.std.specs.List.{range_with_len, AllPairs}
use Rattle.std.specs.List.Sorted.{IsStrictlyIncreasing, IsBinarySearchResult, IsNonDecreasingBy}
use Rattle.std.specs.Ordering.{nat_cmp, ordering_index}
use Rattle.std.proofs.Math.Bool.{or-false}
use Rattle.std.proofs.lemmas.Bool.{and_right, eq-eqb, eqb-true, le-ltb, ltb-false, ne_eqb, or_from}
use Rattle.std.proofs.lemmas.Bool.Decides.{nat_tests}
use Rattle.std.proofs.lemmas.Cmp.{ranked}
use Rattle.std.proofs.lemmas.Int.{ints}
use Rattle.std.proofs.lemmas.List.{get_or-map, length-map, get_or_default}
use Rattle.std.proofs.lemmas.List.FromFn.{length-range_with_len, get_or-range_with_len}
use Rattle.std.proofs.lemmas.List.Kept.{AllPairs-filter, AllPairs-from_increasing}
use Rattle.std.proofs.lemmas.List.Sorted.{IsNonDecreasingBy-from_default}
use Rattle.span_money.specs.Numbers.{int_sum_by}
use Rattle.span_tables.specs.Holdings.{ArePortfolio}
use Rattle.span_tables.specs.Net.{is_held}
use Rattle.span_tables.specs.Orders.{net_among}
use Rattle.span_tables.specs.declared.limits.TheConstants.{MAX_NET}
use Rattle.span_tables.specs.declared.portfolios.Holding.{Holding}
use Rattle.span_tables.proofs.SumLaws.{int_sum_by-cons}
use Rattle.binding.specs.near.Holdings.{is_over, is_over_at}
use Rattle.binding.specs.near.Nets.{entry_net, entry_holdings}
use Rattle.binding.specs.declared.ledgers.Entry.{Entry}

none : Holding
none = record { contract = 0; net = pos 0 }

Rise : List Holding → Type 0
Rise holdings = AllPairs (λ (x y : Holding). x.contract < y.contract) holdings

-- ---- the order of holdings

numbers_rise : (a n : ℕ) → IsStrictlyIncreasing (range_with_len a n)
numbers_rise a n k lt =
    let size = length-range_with_len a n in
    let here = get_or-range_with_len a n k 0 (omega (arith, lt, size)) in
    let next = get_or-range_with_len a n (k + 1) 0 (omega (arith, lt, size)) in
    omega (arith, here, next)

pairs_rise : (all : List Holding) → IsStrictlyIncreasing (map (λ h. h.contract) all) → Rise all
unfolding Rise
pairs_rise all rise i j d l m =
    let size = length-map all (λ (h : Holding). h.contract) in
    let m' : j < length (map (λ (h : Holding). h.contract) all) = omega (arith, m, size) in
    let i' : i < length all = omega (arith, l, m) in
    let less = AllPairs-from_increasing (map (λ (h : Holding). h.contract) all) rise i j 0 l m' in
    let first = get_or-map (λ (h : Holding). h.contract) all i d 0 i' in
    let second = get_or-map (λ (h : Holding). h.contract) all j d 0 m in
    omega (arith, less, first, second)

-- the elements of increasing holdings that pass a test are increasing
pub filter_rise : (test : Holding → Bool) (all : List Holding) → IsStrictlyIncreasing (map (λ h. h.contract) all)
    → IsStrictlyIncreasing (map (λ h. h.contract) (filter test all))
unfolding Rise
filter_rise test all rise k lt =
    let passing = filter test all in
    let size = length-map passing (λ (h : Holding). h.contract) in
    let m : k + 1 < length passing = omega (arith, lt, size) in
    let l : k < length passing = omega (arith, m) in
    let kept = AllPairs-filter (λ (x y : Holding). x.contract < y.contract) test all (pairs_rise all rise) k (k + 1) none
    (omega arith) m in
    let first = get_or-map (λ (h : Holding). h.contract) passing k none 0 l in
    let second = get_or-map (λ (h : Holding). h.contract) passing (k + 1) none 0 m in
    omega (arith, kept, first, second)

-- the non-zero holdings of a list by contract number are increasing
pub held_rise : (all : List Holding) (n : ℕ) → map (λ h. h.contract) all ≡ range_with_len 0 n
    → IsStrictlyIncreasing (map (λ h. h.contract) (filter is_held all))
held_rise all n numbers = filter_rise is_held all (subst IsStrictlyIncreasing (sym numbers) (numbers_rise 0 n))

-- the holdings of an account are increasing
pub entry_holdings_rise : (n : ℕ) (entries : List Entry) → IsStrictlyIncreasing (map (λ h. h.contract) (entry_holdings n entries))
unfolding entry_holdings
entry_holdings_rise n entries =
    held_rise (map (λ c. (let it : Holding = record { contract = c; net = entry_net entries c } in it)) (range_with_len 0 n)) n
    (numbers 0 n)
  where
    numbers : (a m : ℕ) → map (λ h. h.contract)
        (map (λ c. (let it : Holding = record { contract = c; net = entry_net entries c } in it)) (range_with_len a m))
        ≡ range_with_len a m
    numbers a zero = refl
    numbers a (suc m) = ap (λ ns. a ∷ ns) (numbers (a + 1) m)

-- ---- a search by contract number

-- there is no holding in contract c
absent_in : (c : ℕ) (holdings : List Holding) → ((k : ℕ) → k < length holdings → (get_or holdings k none).contract ≡ c → ⊥)
    → is_over_at c holdings ≡ false
absent_in c [] h = refl
absent_in c (x ∷ holdings) h =
    or_from ((x.contract == c) && is_over x) (is_over_at c holdings)
    (ap (λ b. b && is_over x) (ne_eqb x.contract c (h 0 (omega arith))))
    (absent_in c holdings (λ k lt. h (suc k) (omega (arith, lt))))

-- the holding in contract c is at index k
over_in : (c : ℕ) (holdings : List Holding) (k : ℕ) → Rise holdings → k < length holdings
    → (get_or holdings k none).contract ≡ c → is_over_at c holdings ≡ is_over (get_or holdings k none)
unfolding Rise
over_in c [] k rise lt at = absurd (omega (arith, lt))
over_in c (x ∷ holdings) zero rise lt at =
    ap (λ b. (b && is_over x) || is_over_at c holdings) (eq-eqb x.contract c at)
    ∙ ap (λ b. is_over x || b) (absent_in c holdings (λ k l same. let less = rise 0 (suc k) none (omega arith) (omega (arith, l)) in
    omega (arith, less, at, same)))
    ∙ or-false (is_over x)
over_in c (x ∷ holdings) (suc k) rise lt at =
    let less = rise 0 (suc k) none (omega arith) lt in
    ap (λ b. (b && is_over x) || is_over_at c holdings) (ne_eqb x.contract c (λ same. omega (arith, less, at, same)))
    ∙ over_in c holdings k (λ i j d l m. rise (suc i) (suc j) d (omega (arith, l)) (omega (arith, m))) (omega (arith, lt)) at

module _ (holdings : List Holding) (rising : IsStrictlyIncreasing (map (λ h. h.contract) holdings)) (c : ℕ) where
  rise : Rise holdings
  rise = pairs_rise holdings rising

  -- the comparisons with c are non-decreasing along the holdings, as a binary search requires
  comparisons_rise : IsNonDecreasingBy (λ h. ordering_index (nat_cmp h.contract c)) holdings
  unfolding Rise
  comparisons_rise = IsNonDecreasingBy-from_default (λ h. ordering_index (nat_cmp h.contract c)) holdings none (λ i j le in_range.
      let less = rise i j none in
      grind (arith, nat_tests, less, λ (same : i ≡ j). ap (λ k. (get_or holdings k none).contract) same))

  pub over_found : (place : ℕ) (d : Holding) → place < length holdings
      → IsBinarySearchResult (λ h. nat_cmp h.contract c) holdings (Ok place)
      → is_over (get_or holdings place d) ≡ is_over_at c holdings
  over_found place d lt equal =
      ap is_over (get_or_default holdings place d none lt)
      ∙ sym (over_in c holdings place rise lt (ranked _ c _ (sym (equal none))))

  pub over_absent : (place : ℕ) → place ≤ length holdings → IsBinarySearchResult (λ h. nat_cmp h.contract c) holdings (Err place)
      → false ≡ is_over_at c holdings
  over_absent place le parted = sym (absent_in c holdings (λ k lt same.
      let before = λ (l : k < place). ranked _ c _ (sym ((parted comparisons_rise).0 k none (omega (arith, le)) l)) in
      let after = λ (l : place ≤ k). ranked _ c _ (sym ((parted comparisons_rise).1 k none l lt)) in
      grind (arith, before, after, same)))

-- ---- the net in contract c

-- there is no holding in contract c
none_among : (c : ℕ) (holdings : List Holding) → ((k : ℕ) → k < length holdings → (get_or holdings k none).contract ≡ c → ⊥)
    → net_among holdings c ≡ pos 0
none_among c [] h = refl
none_among c (x ∷ holdings) h =
    let rest = filter (λ (y : Holding). y.contract == c) holdings in
    ap (λ b. int_sum_by (λ (y : Holding). y.net) (cond b (x ∷ rest) rest)) (ne_eqb x.contract c (h 0 (omega arith)))
    ∙ none_among c holdings (λ k lt. h (suc k) (omega (arith, lt)))

over_of_rise : (c : ℕ) (holdings : List Holding) → Rise holdings → is_over_at c holdings ≡ nat_lt MAX_NET (nat_abs (net_among holdings c))
unfolding Rise
over_of_rise c [] rise = refl
over_of_rise c (x ∷ holdings) rise = by (x.contract == c) refl (over_of_rise c holdings rise_behind)
  where
    rise_behind : AllPairs (λ (y z : Holding). y.contract < z.contract) holdings
    rise_behind = λ i j d l m. rise (suc i) (suc j) d (omega (arith, l)) (omega (arith, m))

    rest : List Holding
    rest = filter (λ (y : Holding). y.contract == c) holdings

    sum : List Holding → ℤ
    sum xs = int_sum_by (λ (y : Holding). y.net) xs

    by : (b : Bool) → (x.contract == c) ≡ b → is_over_at c holdings ≡ nat_lt MAX_NET (nat_abs (net_among holdings c))
        → (((x.contract == c) && is_over x) || is_over_at c holdings)
        ≡ nat_lt MAX_NET (nat_abs (sum (cond (x.contract == c) (x ∷ rest) rest)))
    by true e more =
        let at : x.contract ≡ c = eqb-true x.contract c e in
        let others : (k : ℕ) → k < length holdings → (get_or holdings k none).contract ≡ c → ⊥ = λ k l same.
        let less = rise 0 (suc k) none (omega arith) (omega (arith, l)) in omega (arith, less, at, same) in
        let nothing = none_among c holdings others in
        let whole : sum (x ∷ rest) ≡ x.net = int_sum_by-cons (λ (y : Holding). y.net) x rest ∙ ap (λ z. x.net +ℤ z) nothing
        ∙ (let add : x.net +ℤ pos 0 ≡ x.net = omega (arith, ints) in add) in
        ap (λ b. (b && is_over x) || is_over_at c holdings) e ∙ ap (λ b. is_over x || b) (absent_in c holdings others)
        ∙ or-false (is_over x)
        ∙ sym (ap (λ b. nat_lt MAX_NET (nat_abs (sum (cond b (x ∷ rest) rest)))) e ∙ ap (λ z. nat_lt MAX_NET (nat_abs z)) whole)
    by false e more =
        ap (λ b. (b && is_over x) || is_over_at c holdings) e ∙ more
        ∙ sym (ap (λ b. nat_lt MAX_NET (nat_abs (sum (cond b (x ∷ rest) rest)))) e)

-- in increasing holdings the net in a contract is over the limit exactly if a holding in it is
pub over_among : (holdings : List Holding) → IsStrictlyIncreasing (map (λ h. h.contract) holdings) → (c : ℕ)
    → is_over_at c holdings ≡ nat_lt MAX_NET (nat_abs (net_among holdings c))
over_among holdings rising c = over_of_rise c holdings (pairs_rise holdings rising)

none_over : (c : ℕ) (holdings : List Holding) → All (λ h. nat_abs h.net ≤ MAX_NET) holdings → is_over_at c holdings ≡ false
none_over c [] within = refl
none_over c (x ∷ holdings) within =
    let here : is_over x ≡ false = le-ltb MAX_NET (nat_abs x.net) (let w = within 0 x (omega arith) in omega (arith, w)) in
    or_from ((x.contract == c) && is_over x) (is_over_at c holdings) (and_right (x.contract == c) (is_over x) here)
    (none_over c holdings (λ k d lt. within (suc k) d (omega (arith, lt))))

-- the net in each contract of a portfolio is within the limit
pub among_within : (holdings : List Holding) → ArePortfolio holdings → (c : ℕ) → nat_abs (net_among holdings c) ≤ MAX_NET
among_within holdings portfolio c =
    ltb-false MAX_NET (nat_abs (net_among holdings c))
    (sym (over_among holdings portfolio.rising c) ∙ none_over c holdings portfolio.nets)
