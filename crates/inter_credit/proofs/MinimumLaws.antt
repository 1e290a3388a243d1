-- The short option minimum counts short calls and short puts. The requirement is the larger of two numbers.
use Rattle.std.proofs.Common.{◌≡◌, ℕ, ◌+◌, ◌*◌, ◌<◌, ◌≤◌, Bool, true, false, cond, ◌&&◌, List, [], ◌∷◌, max, filter, length, take}
use Rattle.std.proofs.Common.{get_or, sum_by, nat_abs, ℤ, pos, negsuc, ◌≤ℤ◌, ◌+ℤ◌, ◌-ℤ◌, refl, sym, ap, ◌∙◌, arith}
use Rattle.std.specs.Prelude.{IfSome, int_lt, slice_get}
use Rattle.std.specs.Int.{int_max}
use Rattle.std.proofs.lemmas.Bool.Decides.{nat_tests}
use Rattle.std.proofs.lemmas.List.Sums.{sum_by-append, sum_by-cons}
use Rattle.std.proofs.lemmas.List.Elements.{filter_more}
use Rattle.std.proofs.lemmas.Int.{ints, clamps}
use Rattle.span_money.specs.Numbers.{negative_part}
use Rattle.span_tables.specs.Net.{HeldContract}
use Rattle.span_tables.specs.declared.contracts.Terms.{Terms}
use Rattle.span_tables.specs.near.Terms.{AreTermsOf}
use Rattle.span_tables.specs.declared.records.ProductKind.{ProductKind}
use Rattle.span_tables.specs.declared.records.ProductKind.TheVariants as product
use Rattle.span_tables.proofs.HeldLemmas.{held_here}
use Rattle.span_tables.specs.declared.records.MinimumMethod.TheVariants as method
use Rattle.inter_credit.specs.Requirement.{is_call, is_put, minimum_of, requirement_of, short_count}

-- the sum over a filtered list, split at its first element
pub by_test : {A : Type 0} (b : Bool) (f : A → ℕ) (x : A) (xs : List A) → sum_by f (cond b (x ∷ xs) xs) ≡ cond b (f x) 0 + sum_by f xs
by_test true f x xs = sum_by-cons f x xs
by_test false f x xs = omega arith

-- only a short net quantity counts
counted : (b : Bool) (net : ℤ) → cond b (negative_part net) 0 ≡ cond (b && int_lt net (pos 0)) (nat_abs net) 0
counted true (pos n) = grind (arith, nat_tests)
counted true (negsuc n) = refl
counted false net = refl

pub short_count_is : (is_kind : ProductKind → Bool) (held : List HeldContract)
    → short_count is_kind held ≡ sum_by (λ h. nat_abs h.net) (filter (λ h. is_kind (h.contract).kind && int_lt h.net (pos 0)) held)
short_count_is is_kind [] = refl
short_count_is is_kind (h ∷ held) =
    let is_short : HeldContract → Bool = λ x. is_kind (x.contract).kind && int_lt x.net (pos 0) in
    by_test (is_kind (h.contract).kind) (λ x. negative_part x.net) h (filter (λ x. is_kind (x.contract).kind) held)
    ∙ ap (λ n. n + short_count is_kind held) (counted (is_kind (h.contract).kind) h.net)
    ∙ ap (λ n. cond (is_short h) (nat_abs h.net) 0 + n) (short_count_is is_kind held)
    ∙ sym (by_test (is_short h) (λ x. nat_abs x.net) h (filter is_short held))

last_of : (b : Bool) (h : HeldContract) → sum_by (λ x. negative_part x.net) (cond b (h ∷ []) []) ≡ cond b (negative_part h.net) 0
last_of true h = sum_by-cons (λ (x : HeldContract). negative_part x.net) h [] ∙ omega arith
last_of false h = refl

-- one more held contract, given by its terms and its net
pub short_count_more : (is_kind : ProductKind → Bool) (held : List HeldContract) (i : ℕ) (t : Terms) (n : ℤ) → i < length held
    → IfSome (slice_get held i) (λ h. AreTermsOf h.contract t) → IfSome (slice_get held i) (λ h. n ≡ h.net)
    → short_count is_kind (take (i + 1) held) ≡ short_count is_kind (take i held) + cond (is_kind t.kind) (negative_part n) 0
short_count_more is_kind held i t n lt terms net =
    let here = held_here held i t n lt terms net in
    let h = here.0 in
    let of_kind : HeldContract → Bool = λ x. is_kind (x.contract).kind in
    let term : HeldContract → ℕ = λ x. negative_part x.net in
    ap (sum_by term) (filter_more of_kind held i h lt)
    ∙ sum_by-append term (filter of_kind (take i held)) (cond (of_kind (get_or held i h)) (get_or held i h ∷ []) [])
    ∙ ap (λ (k : HeldContract). short_count is_kind (take i held) + sum_by term (cond (of_kind k) (k ∷ []) []))
    (sym here.1)
    ∙ ap (λ m. short_count is_kind (take i held) + m) (last_of (is_kind (h.contract).kind) h)
    ∙ (λ j. short_count is_kind (take i held) + cond (is_kind (sym here.2.kind j)) (negative_part (sym here.3 j)) 0)

-- method SUM counts both kinds together
pub minimum_of_sum : (rate : ℕ) (held : List HeldContract)
    → minimum_of rate method.Sum held ≡ rate * (short_count is_call held + short_count is_put held)
unfolding minimum_of
minimum_of_sum rate held = refl

-- method MAX counts the larger kind
pub minimum_of_max : (rate : ℕ) (held : List HeldContract)
    → minimum_of rate method.Max held ≡ rate * max (short_count is_call held) (short_count is_put held)
unfolding minimum_of
minimum_of_max rate held = refl

larger_is_least : (a b : ℤ) → (a ≤ℤ int_max a b) × (b ≤ℤ int_max a b) × ((g : ℤ) → a ≤ℤ g → b ≤ℤ g → int_max a b ≤ℤ g)
larger_is_least a b = (omega (arith, ints, clamps), omega (arith, ints, clamps), λ g p q. omega (arith, ints, clamps))

-- the requirement is the least number that is at least both
pub requirement_is_least : (scan intra delivery credit minimum : ℤ)
    → ((((scan +ℤ intra) +ℤ delivery) -ℤ credit) ≤ℤ requirement_of scan intra delivery credit minimum)
    × (minimum ≤ℤ requirement_of scan intra delivery credit minimum)
    × ((g : ℤ) → (((scan +ℤ intra) +ℤ delivery) -ℤ credit) ≤ℤ g → minimum ≤ℤ g
    → requirement_of scan intra delivery credit minimum ≤ℤ g)
unfolding requirement_of
requirement_is_least scan intra delivery credit minimum = larger_is_least (((scan +ℤ intra) +ℤ delivery) -ℤ credit) minimum

-- a contract is not both a call and a put
pub one_kind : (kind : ProductKind) (n : ℕ) → cond (is_call kind) n 0 + cond (is_put kind) n 0 ≤ n
one_kind product.Future n = omega arith
one_kind product.Call n = omega arith
one_kind product.Put n = omega arith
