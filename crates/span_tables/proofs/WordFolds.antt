-- A fold over a list whose steps are taken only for the numbers of a word, in order. The other steps change nothing.
use Rattle.std.proofs.Common.{◌≡◌, ◌≢◌, ◌+◌, ◌-◌, ◌<◌, ◌≤◌, ◌⊎◌, inl, inr, ℕ, zero, suc, List, [], ◌∷◌, length, take, get_or}
use Rattle.std.proofs.Common.{refl, sym, ap, ◌∙◌, arith}
use Rattle.std.specs.Int.{bit_at}
use Rattle.std.specs.Prelude.{fold}
use Rattle.std.proofs.lemmas.Bool.{cases_eq, cases_lt}
use Rattle.std.proofs.lemmas.List.{take_all}
use Rattle.std.proofs.lemmas.List.Sums.{fold_more}
use Rattle.std.proofs.lemmas.Nat.Bits.{bit_at-zero}
use Rattle.span_money.specs.near.Bits.{TakesFirst}

-- the steps before `next` were taken, and `Nothing` is true of the elements after it that are not in the word
pub record AreFormed {S E : Type 0} (step : S → E → S) (Nothing : S → E → Type 0) (list : List E) (start s : S) (word : ℕ) : Type 0 where
  pub next : ℕ
  pub so_far : s ≡ fold step start (take next list)
  pub below : (k : ℕ) → k < next → bit_at word k ≡ 0
  pub nothing : (k : ℕ) (e : E) → next ≤ k → k < length list → bit_at word k ≡ 0 → Nothing s (get_or list k e)

-- if `Nothing` is true of an element, a step for it changes nothing
module _ {S E : Type 0} (step : S → E → S) (Nothing : S → E → Type 0) (changes : (s : S) (e : E) → Nothing s e → step s e ≡ s)
    (list : List E) (start : S) where
  some_element : (es : List E) (k : ℕ) → k < length es → E
  some_element [] k lt = absurd (omega arith)
  some_element (e ∷ es) k lt = e

  -- elements whose steps change nothing are passed over
  pass_over : (s : S) (next : ℕ) → s ≡ fold step start (take next list) → (count : ℕ)
      → ((k : ℕ) (e : E) → next ≤ k → k < next + count → k < length list → Nothing s (get_or list k e))
      → s ≡ fold step start (take (next + count) list)
  pass_over s next so_far zero nothing =
      let same : next ≡ next + 0 = omega arith in so_far ∙ ap (λ n. fold step start (take n list)) same
  pass_over s next so_far (suc count) nothing =
      by (pass_over s next so_far count (λ k e le lt short. nothing k e le (omega (arith, lt)) short))
      (cases_lt (next + count) (length list))
    where
      one : next + count + 1 ≡ next + suc count
      one = omega arith

      by : s ≡ fold step start (take (next + count) list) → (next + count < length list) ⊎ (length list ≤ next + count)
          → s ≡ fold step start (take (next + suc count) list)
      by before (inl lt) =
          let e : E = some_element list (next + count) lt in
          let same : step s (get_or list (next + count) e) ≡ s =
          changes s (get_or list (next + count) e) (nothing (next + count) e (omega arith) (omega arith) lt) in
          sym same ∙ ap (λ x. step x (get_or list (next + count) e)) before
          ∙ sym (fold_more step start list (next + count) e lt)
          ∙ ap (λ n. fold step start (take n list)) one
      by before (inr ge) =
          before ∙ ap (fold step start)
          (take_all (next + count) list ge ∙ sym (take_all (next + suc count) list (omega (arith, ge))))

  -- no step was taken yet
  pub none_formed : (word : ℕ) → ((k : ℕ) (e : E) → k < length list → bit_at word k ≡ 0 → Nothing start (get_or list k e))
      → AreFormed step Nothing list start start word
  none_formed word nothing = record {
    next = 0;
    so_far = refl;
    below = λ k lt. absurd (omega (arith, lt));
    nothing = λ k e le lt none. nothing k e lt none;
  }

  module _ (s : S) (word first left : ℕ) (formed : AreFormed step Nothing list start s word) (takes : TakesFirst word first left) where
    -- the first number of the word comes after the steps that were taken
    not_before : formed.next ≤ first
    not_before = by (cases_lt first formed.next)
      where
        by : (first < formed.next) ⊎ (formed.next ≤ first) → formed.next ≤ first
        by (inl lt) = absurd (omega (arith, formed.below first lt, takes.found))
        by (inr le) = le

    -- the step of the first number of the word was taken
    pub formed_more : (after : S) (e : E) → first < length list → e ≡ get_or list first e → after ≡ step s e
        → ((k : ℕ) (x : E) → first < k → k < length list → Nothing s (get_or list k x) → Nothing after (get_or list k x))
        → AreFormed step Nothing list start after left
    formed_more after e lt at is stays = record {
      next = first + 1;
      so_far = is ∙ ap (λ x. step x e) here
          ∙ ap (step (fold step start (take first list))) at
          ∙ sym (fold_more step start list first e lt);
      below = λ k le. gone k le (cases_eq k first);
      nothing = λ k x le short none.
          let before : bit_at word k ≡ 0 = sym (takes.taken.kept k (λ same. absurd (omega (arith, le, same)))) ∙ none in
          stays k x (omega (arith, le)) short (formed.nothing k x (omega (arith, le, not_before)) short before);
    }
      where
        up : formed.next + (first - formed.next) ≡ first
        up = omega (arith, not_before)

        here : s ≡ fold step start (take first list)
        here = pass_over s formed.next formed.so_far (first - formed.next)
            (λ k x le less short. formed.nothing k x le short (takes.lowest k (omega (arith, less, up))))
            ∙ ap (λ n. fold step start (take n list)) up

        gone : (k : ℕ) → k < first + 1 → (k ≡ first) ⊎ (k ≢ first) → bit_at left k ≡ 0
        gone k le (inl same) = ap (bit_at left) same ∙ takes.taken.gone
        gone k le (inr other) = takes.taken.kept k other ∙ takes.lowest k (omega (arith, le, other))

    -- the list has no element of that number
    pub formed_past : length list ≤ first → AreFormed step Nothing list start s left
    formed_past past = record {
      next = formed.next;
      so_far = formed.so_far;
      below = λ k lt. gone k lt (cases_eq k first);
      nothing = λ k x le short none.
          formed.nothing k x le short (sym (takes.taken.kept k (λ same. absurd (omega (arith, short, past, same)))) ∙ none);
    }
      where
        gone : (k : ℕ) → k < formed.next → (k ≡ first) ⊎ (k ≢ first) → bit_at left k ≡ 0
        gone k lt (inl same) = ap (bit_at left) same ∙ takes.taken.gone
        gone k lt (inr other) = takes.taken.kept k other ∙ formed.below k lt

  -- no number is left in the word
  pub all_formed : (s : S) (word : ℕ) → AreFormed step Nothing list start s word → word ≡ 0 → s ≡ fold step start list
  all_formed s word formed none =
      pass_over s formed.next formed.so_far (length list)
      (λ k x le less short. formed.nothing k x le short (ap (λ w. bit_at w k) none ∙ bit_at-zero k))
      ∙ ap (fold step start) (take_all (formed.next + length list) list (omega arith))
