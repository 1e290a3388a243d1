-- Results of byte searches, and the records after a cut that follows a line feed.
use Rattle.std.proofs.Common.{◌≡◌, ◌∙◌, refl, sym, ap, arith, ℕ, Bool, true, false, not, ◌||◌, ◌==◌}
use Rattle.std.proofs.Common.{List, [], ◌∷◌, ◌++◌, take, drop, get_or, inl, inr, Option, Some, None, append_assoc, slice_get}
use Rattle.std.specs.Prelude.{flat_map, is_some}
use Rattle.std.specs.List.{list_any}
use Rattle.std.proofs.lemmas.Bool.{cases_Bool, or_parts}
use Rattle.std.proofs.lemmas.Grind.{flat_map-append}
use Rattle.std.proofs.lemmas.List.{append-nil, take-append-drop}
use Rattle.std.proofs.lemmas.List.Elements.{All-from_get_or}
use Rattle.std.proofs.lemmas.List.Folds.{list_any-append, list_any_at, list_any_none}
use Rattle.csv.specs.Reading.{strip_bom}
use Rattle.memchr.specs.Find.{IsFirstByte}
use Rattle.span_csv.specs.Cuts.{BeginsWithNoMark, EndsInLineFeed, has_quote}
use Rattle.span_csv.specs.Records.{records_of}
use Rattle.span_csv.proofs.CutLemmas.{records_joined}

-- ---- searches

-- a search finds a byte exactly if there is one
pub found_any : (test : ℕ → Bool) (hay : List ℕ) (r : Option ℕ) → IsFirstByte test hay r → is_some r ≡ list_any test hay
found_any test hay None h =
    sym (list_any_none test hay (All-from_get_or (λ x. test x ≡ false) hay 0 (λ k within.
    elim (cases_Bool (test (get_or hay k 0))) [
      | inl passes ↦ absurd (h k (omega arith) within passes)
      | inr fails ↦ fails
    ])))
found_any test hay (Some k) h = sym (list_any_at test hay k 0 h.0.high h.1)

-- ---- byte order marks

-- bytes that do not begin with the first byte of a mark do not begin with a mark
pub unmarked : (a : ℕ) (rest : List ℕ) → (a == 0xEF) ≡ false → BeginsWithNoMark (a ∷ rest)
unfolding strip_bom
unmarked a [] other = refl
unmarked a (b ∷ []) other = refl
unmarked a (b ∷ c ∷ rest) other = rw other refl

-- the same if the first byte is known by its index
pub first_unmarked : (bytes : List ℕ) (first : ℕ) → Some first ≡ slice_get bytes 0 → not (first == 0xEF) ≡ true → BeginsWithNoMark bytes
first_unmarked [] first is other = cc
first_unmarked (a ∷ rest) first is other = unmarked a rest (by (a == 0xEF) refl) where
  same : first ≡ a
  same = cc

  by : (b : Bool) → (a == 0xEF) ≡ b → b ≡ false
  by false e = refl
  by true e = let told : not true ≡ true = sym (ap not (ap (λ n. n == 0xEF) same ∙ e)) ∙ other in cc

-- ---- cuts

module _ (left : List ℕ) (at : ℕ) (plain : has_quote left ≡ false) where
  parts_plain : (has_quote (take at left) || has_quote (drop at left)) ≡ false
  parts_plain =
      sym (list_any-append (λ b. b == 34) (take at left) (drop at left)) ∙ ap has_quote (take-append-drop at left) ∙ plain

  -- the bytes after a cut have no quote
  pub left_plain : has_quote (drop at left) ≡ false
  left_plain = (or_parts (has_quote (take at left)) (has_quote (drop at left)) parts_plain).1

  -- the records on both sides of a cut, joined, are the records of the whole
  pub records_cut : EndsInLineFeed (take at left) → BeginsWithNoMark (drop at left)
      → records_of (take at left) ++ records_of (drop at left) ≡ records_of left
  records_cut line begins =
      sym (records_joined (take at left) (drop at left) line
      (or_parts (has_quote (take at left)) (has_quote (drop at left)) parts_plain).0 begins)
      ∙ ap records_of (take-append-drop at left)

-- one more piece cut from the front of the bytes that are left
pub one_more : {X A : Type 0} (f : X → List A) (pieces : List X) (piece : X) (rest left whole : List A)
    → flat_map f pieces ++ left ≡ whole → f piece ++ rest ≡ left → flat_map f (pieces ++ piece ∷ []) ++ rest ≡ whole
one_more f pieces piece rest left whole so_far cut =
    ap (λ front. front ++ rest) (flat_map-append f pieces (piece ∷ []) ∙ ap (λ one. flat_map f pieces ++ one) (append-nil (f piece)))
    ∙ append_assoc (flat_map f pieces) (f piece) rest
    ∙ ap (λ more. flat_map f pieces ++ more) cut
    ∙ so_far
