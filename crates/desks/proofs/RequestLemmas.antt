-- The requests in bytes that are cut at line feeds.
use Rattle.std.proofs.Common.{◌≡◌, ◌∙◌, ℕ, true, false, List, [], ◌∷◌, ◌++◌, refl, sym, ap, arith, inl, inr, length, append-nil}
use Rattle.std.proofs.Math.Bool.{or-false, or-true}
use Rattle.std.proofs.lemmas.Bool.{cases_Bool}
use Rattle.std.proofs.lemmas.Grind.{flat_map-append}
use Rattle.std.proofs.lemmas.List.Folds.{list_any-append, list_any_none}
use Rattle.std.proofs.lemmas.List.Splits.{slice_split-cons_no, slice_split-cons_yes, length-slice_split, slice_split_at, slice_split_none}
use Rattle.std.specs.Prelude.{◌||◌}
use Rattle.std.specs.List.{flat_map, list_any, onto_first, slice_split}
use Rattle.desks.specs.Requests.{is_feed, request_of_line, requests_in, whole_lines}
use Rattle.desks.specs.near.Keeping.{HasNoFeed}

-- ---- whole lines

-- a line feed ends a whole line
pub whole_lines-at_feed : (xs rest : List ℕ) → whole_lines (xs ++ 10 ∷ rest) ≡ xs ++ 10 ∷ whole_lines rest
whole_lines-at_feed [] rest = refl
whole_lines-at_feed (x ∷ xs) rest =
    let found : list_any is_feed (x ∷ xs ++ 10 ∷ rest) ≡ true =
    list_any-append is_feed (x ∷ xs) (10 ∷ rest) ∙ or-true (list_any is_feed (x ∷ xs)) in
    rw found (ap (λ ys. x ∷ ys) (whole_lines-at_feed xs rest))

-- bytes without a line feed add no whole line
pub whole_lines-no_feed : (xs part : List ℕ) → HasNoFeed part → whole_lines (xs ++ part) ≡ whole_lines xs
whole_lines-no_feed [] part none = of_part part none where
  of_part : (part : List ℕ) → HasNoFeed part → whole_lines part ≡ []
  of_part [] none = refl
  of_part (b ∷ bs) none = rw (list_any_none is_feed (b ∷ bs) none) refl
whole_lines-no_feed (x ∷ xs) part none =
    let same : list_any is_feed (x ∷ xs ++ part) ≡ list_any is_feed (x ∷ xs) =
    list_any-append is_feed (x ∷ xs) part ∙ rw (list_any_none is_feed part none) (or-false (list_any is_feed (x ∷ xs))) in
    rw (same, whole_lines-no_feed xs part none) refl

-- ---- requests

-- the request of a line is followed by the requests of the rest
pub requests_in-line : (part rest : List ℕ) → HasNoFeed part → requests_in (part ++ 10 ∷ rest) ≡ request_of_line part ++ requests_in rest
requests_in-line part rest none = ap (flat_map request_of_line) (slice_split_at is_feed part 10 rest none refl)

-- the request of a last line without its line feed
pub requests_in-last : (part : List ℕ) → HasNoFeed part → requests_in part ≡ request_of_line part
requests_in-last part none =
    ap (flat_map request_of_line) (slice_split_none is_feed part none) ∙ append-nil (request_of_line part)

-- ---- requests of whole lines

-- whole lines are parts, and any bytes after them are cut separately
record IsCut (xs : List ℕ) : Type 0 where
  lines : List (List ℕ)
  alone : slice_split is_feed xs ≡ lines ++ [] ∷ []
  before : (ys : List ℕ) → slice_split is_feed (xs ++ ys) ≡ lines ++ slice_split is_feed ys

-- the tail of whole lines is whole lines, and there is a line feed
whole_tail : (x : ℕ) (xs : List ℕ) → whole_lines (x ∷ xs) ≡ x ∷ xs → (list_any is_feed (x ∷ xs) ≡ true) × (whole_lines xs ≡ xs)
whole_tail x xs whole =
    elim (cases_Bool (list_any is_feed (x ∷ xs))) [
      | inl some ↦
          let tail : whole_lines xs ≡ xs = (let e = rw some at whole in cc) in
          (some, tail)
      | inr none ↦ let e = rw none at whole in cc
    ]

-- bytes that follow whole lines have their own whole lines
pub whole_lines-append : (xs ys : List ℕ) → whole_lines xs ≡ xs → whole_lines (xs ++ ys) ≡ xs ++ whole_lines ys
whole_lines-append [] ys whole = refl
whole_lines-append (x ∷ xs) ys whole =
    let tail = whole_tail x xs whole in
    let some : list_any is_feed (x ∷ xs ++ ys) ≡ true =
    list_any-append is_feed (x ∷ xs) ys ∙ ap (λ found. found || list_any is_feed ys) tail.0 in
    rw some (ap (λ bytes. x ∷ bytes) (whole_lines-append xs ys tail.1))

onto_some : (x : ℕ) (parts : List (List ℕ)) → onto_first x parts ≡ [] ∷ [] → ⊥
onto_some x [] is = cc
onto_some x (part ∷ parts) is = cc

-- bytes that split into a single empty part have no line feed
alone_no_feed : (xs : List ℕ) → slice_split is_feed xs ≡ [] ∷ [] → list_any is_feed xs ≡ false
alone_no_feed [] alone = refl
alone_no_feed (x ∷ xs) alone =
    elim (cases_Bool (is_feed x)) [
      | inl feed ↦
          let e : slice_split is_feed xs ≡ [] = (let parts = sym (slice_split-cons_yes is_feed x xs feed) ∙ alone in cc) in
          absurd (omega (arith, length-slice_split is_feed xs, ap length e))
      | inr other ↦ absurd (onto_some x (slice_split is_feed xs) (sym (slice_split-cons_no is_feed x xs other) ∙ alone))
    ]

-- a byte that is no line feed is added to the first of the lines, if there is one
onto_line : (x : ℕ) (xs : List ℕ) → is_feed x ≡ false → list_any is_feed (x ∷ xs) ≡ true → IsCut xs → IsCut (x ∷ xs)
onto_line x xs other some cut = of_lines cut.lines cut.alone cut.before where
  of_lines : (lines : List (List ℕ)) → slice_split is_feed xs ≡ lines ++ [] ∷ []
      → ((ys : List ℕ) → slice_split is_feed (xs ++ ys) ≡ lines ++ slice_split is_feed ys) → IsCut (x ∷ xs)
  of_lines [] alone before = let none = alone_no_feed xs alone in let e = rw other at some in cc
  of_lines (line ∷ lines) alone before = record {
    lines = (x ∷ line) ∷ lines;
    alone = slice_split-cons_no is_feed x xs other ∙ ap (onto_first x) alone;
    before = λ ys. slice_split-cons_no is_feed x (xs ++ ys) other ∙ ap (onto_first x) (before ys);
  }

whole_is_cut : (xs : List ℕ) → whole_lines xs ≡ xs → IsCut xs
whole_is_cut [] whole = record { lines = []; alone = refl; before = λ ys. refl }
whole_is_cut (x ∷ xs) whole =
    let tail = whole_tail x xs whole in
    let cut : IsCut xs = whole_is_cut xs tail.1 in
    elim (cases_Bool (is_feed x)) [
      | inl feed ↦ record {
        lines = [] ∷ cut.lines;
        alone = slice_split-cons_yes is_feed x xs feed ∙ ap (λ ls. [] ∷ ls) cut.alone;
        before = λ ys. slice_split-cons_yes is_feed x (xs ++ ys) feed ∙ ap (λ ls. [] ∷ ls) (cut.before ys);
      }
      | inr other ↦ onto_line x xs other tail.0 cut
    ]

-- the requests of whole lines are followed by the requests of the bytes after them
pub requests_in-whole : (xs ys : List ℕ) → whole_lines xs ≡ xs → requests_in (xs ++ ys) ≡ requests_in xs ++ requests_in ys
requests_in-whole xs ys whole =
    let cut = whole_is_cut xs whole in
    let alone : requests_in xs ≡ flat_map request_of_line cut.lines =
    ap (flat_map request_of_line) cut.alone ∙ flat_map-append request_of_line cut.lines ([] ∷ [])
    ∙ append-nil (flat_map request_of_line cut.lines) in
    ap (flat_map request_of_line) (cut.before ys) ∙ flat_map-append request_of_line cut.lines (slice_split is_feed ys)
    ∙ ap (λ requests. requests ++ requests_in ys) (sym alone)

-- ---- bytes that are cut off

any_whole : (xs : List ℕ) → list_any is_feed (whole_lines xs) ≡ list_any is_feed xs
any_whole [] = refl
any_whole (x ∷ xs) =
    elim (cases_Bool (list_any is_feed (x ∷ xs))) [
      | inl some ↦ rw some (ap (λ found. is_feed x || found) (any_whole xs) ∙ some)
      | inr none ↦ rw none refl
    ]

-- taking the whole lines twice is the same as taking them once
pub whole_lines-whole : (xs : List ℕ) → whole_lines (whole_lines xs) ≡ whole_lines xs
whole_lines-whole [] = refl
whole_lines-whole (x ∷ xs) =
    elim (cases_Bool (list_any is_feed (x ∷ xs))) [
      | inl some ↦
          let still : list_any is_feed (x ∷ whole_lines xs) ≡ true = ap (λ found. is_feed x || found) (any_whole xs) ∙ some in
          rw (some, still) (ap (λ ys. x ∷ ys) (whole_lines-whole xs))
      | inr none ↦ rw none refl
    ]

-- the bytes after the whole lines
pub behind_whole : (xs : List ℕ) → (tail : List ℕ) × (xs ≡ whole_lines xs ++ tail)
behind_whole [] = ([], refl)
behind_whole (x ∷ xs) =
    elim (cases_Bool (list_any is_feed (x ∷ xs))) [
      | inl some ↦ (let rest = behind_whole xs in (rest.0, rw some (ap (λ ys. x ∷ ys) rest.1)))
      | inr none ↦ (x ∷ xs, rw none refl)
    ]
