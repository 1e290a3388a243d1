-- Prefixes of one list.
use Rattle.std.proofs.Common.{◌≡◌, ◌≤◌, List, [], ◌∷◌, length, refl, arith}
use mathlib.Core.List.{IsPrefix}

-- the shorter of two prefixes of a list is a prefix of the longer one
pub IsPrefix-shorter : {A : Type 0} (xs ys zs : List A) → IsPrefix xs zs → IsPrefix ys zs → length xs ≤ length ys → IsPrefix xs ys
IsPrefix-shorter [] ys zs of_xs of_ys shorter = (ys, refl)
IsPrefix-shorter (x ∷ xs) [] zs of_xs of_ys shorter = absurd (omega arith)
IsPrefix-shorter (x ∷ xs) (y ∷ ys) [] of_xs of_ys shorter = absurd (cc (of_xs.1))
IsPrefix-shorter (x ∷ xs) (y ∷ ys) (z ∷ zs) of_xs of_ys shorter =
    let heads : x ≡ y = cc (of_xs.1, of_ys.1) in
    let rest = IsPrefix-shorter xs ys zs (of_xs.0, cc (of_xs.1)) (of_ys.0, cc (of_ys.1)) (omega arith) in
    (rest.0, cc (heads, rest.1))

-- a prefix that is at least as long as the list is the whole list
pub IsPrefix-whole : {A : Type 0} (xs ys : List A) → IsPrefix xs ys → length ys ≤ length xs → xs ≡ ys
IsPrefix-whole [] [] begins longer = refl
IsPrefix-whole [] (y ∷ ys) begins longer = absurd (omega arith)
IsPrefix-whole (x ∷ xs) [] begins longer = absurd (cc (begins.1))
IsPrefix-whole (x ∷ xs) (y ∷ ys) begins longer =
    let rest = IsPrefix-whole xs ys (begins.0, cc (begins.1)) (omega arith) in
    cc (begins.1, rest)
