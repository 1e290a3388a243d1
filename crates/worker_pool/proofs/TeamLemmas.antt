-- The numbers of a team's workers.
use Rattle.std.proofs.Common.{◌≡◌, ℕ, ◌+◌, List, [], ◌∷◌, ◌++◌, ◌∙◌, add-one, ap, refl, sym, length, map}
use Rattle.std.specs.List.{range_with_len}
use Rattle.std.proofs.lemmas.List.{length_push, map-append, map-id}
use Rattle.std.proofs.lemmas.List.FromFn.{map-range_with_len_more}

-- a range of numbers with the next number appended is a range that is one longer
one_number_more : (first n : ℕ) → range_with_len first n ++ (first + n) ∷ [] ≡ range_with_len first (n + 1)
one_number_more first n =
    ap (λ l. l ++ (first + n) ∷ []) (sym (map-id (range_with_len first n)))
    ∙ sym (map-range_with_len_more (λ k. k) first n (first + n) refl)
    ∙ map-id (range_with_len first (n + 1))

-- appending a helper makes the list one longer
pub one_longer : {W : Type 0} (helpers new : List W) (helper : W) → new ≡ helpers ++ helper ∷ [] → length new ≡ length helpers + 1
one_longer helpers new helper are = ap length are ∙ length_push helpers helper

-- appending a helper with the next number keeps the numbers consecutive
pub one_helper_more : {W : Type 0} (number : W → ℕ) (first : ℕ) (helpers new : List W) (helper : W)
    → new ≡ helpers ++ helper ∷ [] → number helper ≡ first + length helpers
    → map number helpers ≡ range_with_len first (length helpers)
    → map number new ≡ range_with_len first (length new)
one_helper_more number first helpers new helper are is was =
    ap (map number) are
    ∙ map-append number helpers (helper ∷ [])
    ∙ ap (λ numbers. numbers ++ number helper ∷ []) was
    ∙ ap (λ m. range_with_len first (length helpers) ++ m ∷ []) is
    ∙ one_number_more first (length helpers)
    ∙ ap (range_with_len first) (sym (one_longer helpers new helper are))

-- the numbers of the coordinator and of the helpers are the numbers of the team
pub of_team : (first helpers workers : ℕ) (coordinator : ℕ) (numbers : List ℕ)
    → coordinator ≡ first → numbers ≡ range_with_len (first + 1) helpers → helpers + 1 ≡ workers
    → coordinator ∷ numbers ≡ range_with_len first workers
of_team first helpers workers coordinator numbers is are many =
    ap (λ c. c ∷ numbers) is
    ∙ ap (λ l. first ∷ l) are
    ∙ ap (range_with_len first) (sym (add-one helpers) ∙ many)
