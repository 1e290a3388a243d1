-- Lists of elements with their indexes.
use Rattle.std.proofs.Common.{◌≡◌, ℕ, ◌+◌, ◌<◌, List, [], ◌∷◌, ◌++◌, length, flat_map, take, slice_index_or, sym, ap, ◌∙◌, arith}
use Rattle.std.specs.List.{enumerate_from}
use Rattle.std.proofs.lemmas.Grind.{flat_map-append, take_at_read}
use Rattle.std.proofs.lemmas.List.{append-nil}
use Rattle.std.proofs.lemmas.List.Concat.{flat_map-cons}
use Rattle.std.proofs.lemmas.List.FromFn.{get_or-enumerate_from, length-enumerate_from}
use Rattle.std.proofs.Math.Seq.{take-length}

-- the first elements with their indexes, and one more
pub take_next : {A : Type 0} (xs : List A) (i : ℕ) (d : A) → i < length xs
    → take (i + 1) (enumerate_from 0 xs) ≡ take i (enumerate_from 0 xs) ++ (i, slice_index_or xs i d) ∷ []
take_next xs i d lt =
    let long = length-enumerate_from 0 xs in
    let inside : i < length (enumerate_from 0 xs) = omega (arith, long, lt) in
    let zero_more : 0 + i ≡ i = omega arith in
    (take_at_read (enumerate_from 0 xs) i (0, d) inside).1
    ∙ ap (λ x. take i (enumerate_from 0 xs) ++ x ∷ [])
    (get_or-enumerate_from 0 xs i (0, d) lt ∙ ap (λ n. (n, slice_index_or xs i d)) zero_more)

pub flat_map_next : {A B : Type 0} (f : ℕ × A → List B) (xs : List A) (i : ℕ) (d : A) → i < length xs
    → flat_map f (take (i + 1) (enumerate_from 0 xs)) ≡ flat_map f (take i (enumerate_from 0 xs)) ++ f (i, slice_index_or xs i d)
flat_map_next {A} {B} f xs i d lt =
    let front = take i (enumerate_from 0 xs) in
    let x : ℕ × A = (i, slice_index_or xs i d) in
    ap (flat_map f) (take_next xs i d lt) ∙ flat_map-append f front (x ∷ [])
    ∙ ap (λ t. flat_map f front ++ t) (flat_map-cons f x [] ∙ append-nil (f x))

-- all elements with their indexes
pub take_all : {A : Type 0} (xs : List A) (i : ℕ) → i ≡ length xs → take i (enumerate_from 0 xs) ≡ enumerate_from 0 xs
take_all xs i e = ap (λ n. take n (enumerate_from 0 xs)) (e ∙ sym (length-enumerate_from 0 xs)) ∙ take-length (enumerate_from 0 xs)
