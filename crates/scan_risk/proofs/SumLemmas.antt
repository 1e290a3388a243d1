-- Steps of the scenario sums: a contract adds its term to each of sixteen sums.
use Rattle.std.proofs.Common.{◌≡◌, ℕ, ◌+◌, ◌-◌, ◌<◌, ◌≤◌, zero, suc, List, [], ◌∷◌, length}
use Rattle.std.proofs.Common.{get_or, map, take, arith, ap, sym, ◌∙◌, pos, ℤ, ◌+ℤ◌, ◌*ℤ◌}
use Rattle.std.specs.Prelude.{All, nat_abs}
use Rattle.std.proofs.Math.Nat.{mul-le-mul}
use Rattle.std.proofs.lemmas.Int.{unsigned_abs-mul}
use Rattle.std.proofs.lemmas.List.Sums.{fold_more}
use Rattle.std.proofs.lemmas.Simd.{get_or-zip2, length-zip2}
use Rattle.std.specs.Simd.Lanes.{zip2}
use Rattle.std.proofs.lemmas.List.{ext_get_or, get_or-map, length-map}
use Rattle.std.proofs.lemmas.List.FromFn.{get_or-map-range_with_len, length-map-range_with_len}
use Rattle.span_tables.specs.Net.{HeldContract}
use Rattle.span_tables.specs.declared.limits.TheConstants.{MAX_ARRAY_VALUE, MAX_NET, MAX_TERM}
use Rattle.scan_risk.specs.Scenarios.{at_scenario, scenario_sum, scenario_sums}

-- the terms that a net quantity of a contract adds to the sums, and the sums with them added
abbrev pub terms_of : ℤ → List ℤ → List ℤ
terms_of net values = map (λ (v : ℤ). net *ℤ v) values

abbrev pub with_terms : List ℤ → List ℤ → List ℤ
with_terms sums terms = zip2 (λ (s t : ℤ). s +ℤ t) sums terms

-- a bound of each element bounds the element at any index
pub at_most : (xs : List ℤ) (n : ℕ) → All (λ v. nat_abs v ≤ n) xs → (k : ℕ) → nat_abs (get_or xs k (pos 0)) ≤ n
at_most [] n h k = omega arith
at_most (x ∷ xs) n h zero = h 0 (pos 0) (omega arith)
at_most (x ∷ xs) n h (suc k) = at_most xs n (λ i d lt. h (suc i) d (omega arith)) k

-- the size of a term is at most `MAX_TERM`
pub term_size : (a b : ℤ) → nat_abs a ≤ MAX_NET → nat_abs b ≤ MAX_ARRAY_VALUE → nat_abs (a *ℤ b) ≤ MAX_TERM
term_size a b x y = rw (unsigned_abs-mul a b) (mul-le-mul x y)

-- a scenario's sum over one more contract
pub sum_more : (held : List HeldContract) (i s : ℕ) (h : HeldContract) → i < length held → h ≡ get_or held i h
    → scenario_sum (take (i + 1) held) s ≡ scenario_sum (take i held) s +ℤ h.net *ℤ at_scenario h.contract.values s
sum_more held i s h lt e =
    fold_more (λ a x. a +ℤ x.net *ℤ at_scenario x.contract.values s) (pos 0) held i h lt
    ∙ ap (λ (x : HeldContract). scenario_sum (take i held) s +ℤ x.net *ℤ at_scenario x.contract.values s) (sym e)

-- the term that a contract adds to the sum at an index
term_here : (net : ℤ) (values : List ℤ) (k : ℕ) → k < length values
    → get_or (terms_of net values) k (pos 0) ≡ net *ℤ at_scenario values (k + 1)
term_here net values k lt =
    let place : k ≡ k + 1 - 1 = omega arith in
    get_or-map (λ (v : ℤ). net *ℤ v) values k (pos 0) (pos 0) lt ∙ ap (λ j. net *ℤ get_or values j (pos 0)) place

-- the sum at an index
sum_here : (held : List HeldContract) (k : ℕ) → k < 16 → get_or (scenario_sums held) k (pos 0) ≡ scenario_sum held (k + 1)
unfolding scenario_sums
sum_here held k lt = get_or-map-range_with_len (scenario_sum held) 1 16 k (k + 1) (pos 0) lt (omega arith)

pub sixteen_sums : (held : List HeldContract) → length (scenario_sums held) ≡ 16
unfolding scenario_sums
sixteen_sums held = length-map-range_with_len (scenario_sum held) 1 16

-- the sums over one more contract
pub sums_more : (held : List HeldContract) (i : ℕ) (h : HeldContract) → i < length held → h ≡ get_or held i h
    → length h.contract.values ≡ 16
    → with_terms (scenario_sums (take i held)) (terms_of h.net h.contract.values) ≡ scenario_sums (take (i + 1) held)
sums_more held i h lt at sixteen =
    let old = scenario_sums (take i held) in
    let new = scenario_sums (take (i + 1) held) in
    let terms = terms_of h.net h.contract.values in
    let long : length old ≡ 16 = sixteen_sums (take i held) in
    let as_long : length terms ≡ 16 = length-map h.contract.values (λ (v : ℤ). h.net *ℤ v) ∙ sixteen in
    let of_both : length (with_terms old terms) ≡ 16 = length-zip2 (λ (s t : ℤ). s +ℤ t) old terms (long ∙ sym as_long) ∙ long in
    ext_get_or (pos 0) (with_terms old terms) new (of_both ∙ sym (sixteen_sums (take (i + 1) held)))
    (λ k there.
    let below : k < 16 = omega (arith, of_both, there) in
    get_or-zip2 (λ (s t : ℤ). s +ℤ t) old terms k (pos 0) (pos 0) (pos 0) (omega (arith, long)) (omega (arith, as_long))
    ∙ ap (λ s. s +ℤ get_or terms k (pos 0)) (sum_here (take i held) k below)
    ∙ ap (λ t. scenario_sum (take i held) (k + 1) +ℤ t) (term_here h.net h.contract.values k (omega (arith, sixteen)))
    ∙ sym (sum_more held i (k + 1) h lt at) ∙ sym (sum_here (take (i + 1) held) k below))
