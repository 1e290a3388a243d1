-- The index at which a line is cut.
use Rattle.std.proofs.Common.{◌≡◌, ◌∙◌, ◌+◌, ◌<◌, ◌==◌, add-one, ℕ, false, List, [], ◌∷◌, ◌++◌, take, drop, get_or}
use Rattle.std.proofs.Common.{Some, None, sym, ap, inl, inr, arith}
use Rattle.std.proofs.Math.Seq.{drop-cons}
use Rattle.std.proofs.lemmas.Bool.{cases_Bool}
use Rattle.std.proofs.lemmas.List.{get_or-take, length-take, take-append-drop}
use Rattle.std.proofs.lemmas.List.Elements.{All-from_get_or}
use Rattle.std.proofs.lemmas.List.Splits.{slice_split_at, slice_split_none}
use Rattle.std.specs.Prelude.{All}
use Rattle.memchr.specs.Find.{is_byte, IsFirstByte}
use Rattle.session.specs.Requests.{fields_of}

-- a byte before the first comma is not a comma
no_comma : (line : List ℕ) (end k : ℕ) → IsFirstByte (is_byte 44) line (Some end) → k < end → (get_or line k 0 == 44) ≡ false
no_comma line end k first early =
    elim (cases_Bool (get_or line k 0 == 44)) [
      | inl is ↦ absurd (first.0.before k (omega arith) early is)
      | inr other ↦ other
    ]

-- the field before the first comma, and the fields after it
pub first_field : (line : List ℕ) (end : ℕ) → IsFirstByte (is_byte 44) line (Some end)
    → fields_of line ≡ take end line ∷ fields_of (drop (end + 1) line)
first_field line end first =
    let front : All (λ b. (b == 44) ≡ false) (take end line) =
    All-from_get_or (λ b. (b == 44) ≡ false) (take end line) 0 (λ k within.
    let early : k < end = omega (arith, length-take end line, within) in
    rw (get_or-take end line k 0 early) (no_comma line end k first early)) in
    let parts : line ≡ take end line ++ get_or line end 0 ∷ drop (end + 1) line =
    sym (take-append-drop end line)
    ∙ ap (λ rest. take end line ++ rest)
    (drop-cons line end 0 first.0.high ∙ ap (λ n. get_or line end 0 ∷ drop n line) (sym (add-one end))) in
    ap fields_of parts ∙ slice_split_at (λ b. b == 44) (take end line) (get_or line end 0) (drop (end + 1) line) front first.1

-- a line without a comma is one field
pub one_field : (line : List ℕ) → IsFirstByte (is_byte 44) line None → fields_of line ≡ line ∷ []
one_field line none =
    slice_split_none (λ b. b == 44) line
    (All-from_get_or (λ b. (b == 44) ≡ false) line 0 (λ k within.
    elim (cases_Bool (get_or line k 0 == 44)) [
      | inl is ↦ absurd (none k (omega arith) within is)
      | inr other ↦ other
    ]))
