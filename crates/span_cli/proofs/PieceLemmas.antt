-- Bytes that are read in pieces, each after those before it.
use Rattle.std.proofs.Common.{◌≡◌, ℕ, ◌+◌, List, ◌++◌, Option, Result, Ok, Err, IfOk, length, take, drop, sym, ap, subst, ◌∙◌, drop_at}
use Rattle.std.proofs.KnownBytes.{Consumes-trans}
use Rattle.std.proofs.Math.Seq.{take-add}
use Rattle.std.proofs.lemmas.List.{take-append-le}
use Rattle.std.specs.Io.{ReadsAtMost}
use Rattle.std.specs.Io.KnownBytes.{Consumes, ReadConsumes}

-- what was read into the part of a buffer that follows its front
pub read_in_place : {E : Type 0} (a b : Option (List ℕ)) (r : Result ℕ E) (front part rest : List ℕ) (at : ℕ) → length front ≡ at
    → ReadsAtMost r part → ReadConsumes a b r part → IfOk r (λ n. Consumes a b (take n (drop at (front ++ (part ++ rest)))))
read_in_place a b (Ok n) front part rest at long fits read =
    subst (Consumes a b) (sym (ap (take n) (drop_at front (part ++ rest) at long) ∙ take-append-le n part rest fits.0)) read.0
read_in_place a b (Err e) front part rest at long fits read = tt

-- xs is filled up to f, and ys has the same front and n bytes more
pub more_read : (a b c : Option (List ℕ)) (xs ys : List ℕ) (f n : ℕ) → take f ys ≡ take f xs → Consumes a b (take f xs)
    → Consumes b c (take n (drop f ys)) → Consumes a c (take (f + n) ys)
more_read a b c xs ys f n front before read =
    subst (Consumes a c) (sym (take-add f n ys ∙ ap (λ bytes. bytes ++ take n (drop f ys)) front))
    (Consumes-trans a b c (take f xs) (take n (drop f ys)) before read)
