-- The number of records of a file.
use Rattle.std.proofs.Common.{◌≤◌, ◌+◌, arith, ℕ, zero, suc, Bool, true, false, if◌then◌else◌, List, [], ◌∷◌, length, Option, Some, None}
use Rattle.csv.specs.Machine.{Read, next_record}
use Rattle.csv.specs.Reading.{default_config, is_bom, records_from, records_next, strip_bom}
use Rattle.csv.specs.declared.parser.State.{State}
use Rattle.csv.specs.declared.parser.State.TheVariants as st
use Rattle.span_csv.specs.Records.{Fields, records_of}

next_few : (more : State → List ℕ → List Fields) (n : ℕ) → ((s : State) (xs : List ℕ) → length (more s xs) ≤ n) → (o : Option Read)
    → length (records_next more o) ≤ n + 1
next_few more n each None = omega arith
next_few more n each (Some p) = let le = each p.1 p.2 in omega (arith, le)

from_few : (n : ℕ) (s : State) (xs : List ℕ) → length (records_from default_config n s xs) ≤ n
unfolding records_from
from_few zero s xs = omega arith
from_few (suc n) s xs =
    let le = next_few (records_from default_config n) n (from_few n) (next_record default_config s [] [] xs) in omega (arith, le)

strip_if : (b : Bool) (x y : List ℕ) (n : ℕ) → length x ≤ n → length y ≤ n → length (if b then x else y) ≤ n
strip_if true x y n le_x le_y = le_x
strip_if false x y n le_x le_y = le_y

strip_few : (bytes : List ℕ) → length (strip_bom bytes) ≤ length bytes
unfolding strip_bom
strip_few [] = omega arith
strip_few (a ∷ []) = omega arith
strip_few (a ∷ b ∷ []) = omega arith
strip_few (a ∷ b ∷ c ∷ rest) =
    strip_if (is_bom a b c) rest (a ∷ b ∷ c ∷ rest) (length (a ∷ b ∷ c ∷ rest)) (omega arith) (omega arith)

-- a file has at most one record more than it has bytes
pub records_few : (bytes : List ℕ) → length (records_of bytes) ≤ length bytes + 1
unfolding records_of
records_few bytes =
    let le = from_few (length (strip_bom bytes) + 1) st.StartRecord (strip_bom bytes) in
    let strip = strip_few bytes in omega (arith, le, strip)
