-- The contracts found for the records of a position file, and the holdings of slices of its accounts.
use Rattle.std.proofs.Common.{◌≡◌, ℕ, zero, suc, ◌+◌, ◌-◌, ◌≤◌, List, [], ◌∷◌, ◌++◌, drop, map, take, not, refl, sym, ap, ◌∙◌, arith}
use Rattle.std.proofs.Common.{length}
use Rattle.std.specs.Prelude.{Bool, true, false}
use Rattle.std.proofs.lemmas.List.{map-append}
use mathlib.Core.List.{map-map}
use Rattle.span_tables.specs.Net.{accounts_of}
use Rattle.span_tables.specs.declared.records.NumberedPosition.{NumberedPosition}
use Rattle.span_tables.specs.declared.records.PositionRecord.{PositionRecord}
use Rattle.span_tables.specs.near.Positions.{named_position, named_positions}
use Rattle.binding.specs.near.Ledgers.{contract_place, slice_nets}
use Rattle.binding.specs.near.Nets.{entries_of}
use Rattle.binding.specs.near.Sums.{kept_holdings}

-- the contracts found for numbered records are the contracts found for the records they represent
pub found_of_records : (ids : List (List ℕ)) (positions : List PositionRecord) (records : List NumberedPosition) (found : List ℕ)
    → named_positions (accounts_of positions) records ≡ positions
    → found ≡ map (λ p. contract_place ids p.contract) records → found ≡ map (λ p. contract_place ids p.contract) positions
found_of_records ids positions records found are is =
    is
    ∙ sym (map-map (λ (p : PositionRecord). contract_place ids p.contract) (named_position (accounts_of positions)) records)
    ∙ ap (map (λ (p : PositionRecord). contract_place ids p.contract)) are

-- if all contracts are reported as known, none is unknown
pub none_foreign : (told foreign : Bool) → told ≡ not foreign → told ≡ true → foreign ≡ false
none_foreign told true e h = cc
none_foreign told false e h = refl

take_none : {A : Type 0} (n : ℕ) (xs : List A) → xs ≡ [] → take n xs ≡ []
take_none zero xs e = refl
take_none (suc n) [] e = refl
take_none (suc n) (x ∷ xs) e = cc

drop_none : {A : Type 0} (n : ℕ) (xs : List A) → xs ≡ [] → drop n xs ≡ []
drop_none zero xs e = e
drop_none (suc n) [] e = refl
drop_none (suc n) (x ∷ xs) e = cc

taken_join : {A : Type 0} (a b : ℕ) (xs : List A) → take a xs ++ take b (drop a xs) ≡ take (a + b) xs
taken_join zero b xs = let e : b ≡ 0 + b = omega arith in ap (λ n. take n xs) e
taken_join (suc a) b [] = take_none b [] refl ∙ sym (take_none (suc a + b) [] refl)
taken_join (suc a) b (x ∷ xs) =
    let e : suc (a + b) ≡ suc a + b = omega arith in
    ap (λ ys. x ∷ ys) (taken_join a b xs) ∙ ap (λ n. take n (x ∷ xs)) e

dropped_twice : {A : Type 0} (f a : ℕ) (xs : List A) → drop a (drop f xs) ≡ drop (f + a) xs
dropped_twice zero a xs = let e : a ≡ 0 + a = omega arith in ap (λ n. drop n xs) e
dropped_twice (suc f) a [] = drop_none a [] refl ∙ sym (drop_none (suc f + a) [] refl)
dropped_twice (suc f) a (x ∷ xs) =
    let e : suc (f + a) ≡ suc f + a = omega arith in
    dropped_twice f a xs ∙ ap (λ n. drop n (x ∷ xs)) e

-- the nets of a slice of accounts are the nets of its first part followed by the nets of the remainder
pub slices_join : (ids : List (List ℕ)) (positions : List PositionRecord) (f a c : ℕ) → a ≤ c
    → slice_nets ids positions f a ++ slice_nets ids positions (f + a) (c - a) ≡ slice_nets ids positions f c
unfolding slice_nets
slices_join ids positions f a c le =
    let accounts = accounts_of positions in
    let front = take a (drop f accounts) in
    let kept = kept_holdings (length ids) in
    let of = entries_of ids positions in
    let all : a + (c - a) ≡ c = omega (arith, le) in
    sym (map-append kept (map of front) (map of (take (c - a) (drop (f + a) accounts))))
    ∙ ap (map kept) (sym (map-append of front (take (c - a) (drop (f + a) accounts))))
    ∙ ap (λ xs. map kept (map of (front ++ take (c - a) xs))) (sym (dropped_twice f a accounts))
    ∙ ap (λ ks. map kept (map of ks)) (taken_join a (c - a) (drop f accounts))
    ∙ ap (λ n. map kept (map of (take n (drop f accounts)))) all
