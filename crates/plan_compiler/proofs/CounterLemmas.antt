-- The counters at the start of a run of a plan.
use Rattle.std.proofs.Common.{◌≡◌, ℕ, ◌+◌, ◌<◌, ◌==◌, List, [], ◌∷◌, ◌++◌, length, refl, sym, ap, ◌∙◌, subst, inl, inr, arith}
use Rattle.std.proofs.Common.{eq-eqb, zero-add, add_assoc, if◌then◌else◌, length-append}
use Rattle.std.proofs.lemmas.Bool.{cases_eq, cases_lt, ne_eqb, lt-ltb, le-ltb}
use Rattle.std.proofs.lemmas.List.{get_or_append_left, get_or_push}
use Rattle.std.proofs.lemmas.List.Elements.{All-nil, All-push}
use Rattle.plan_ir.specs.Plans.{StepView, inputs_at}
use Rattle.plan_compiler.specs.near.Beginnings.{times, AreInputCounts, AreWithoutInputs}
use Rattle.plan_compiler.specs.near.Ready.{AreWithoutFrom}

pub times-append : (x : ℕ) (ys zs : List ℕ) → times x (ys ++ zs) ≡ times x ys + times x zs
times-append x [] zs = sym (zero-add (times x zs))
times-append x (y ∷ ys) zs = ap (λ n. (if y == x then 1 else 0) + n) (times-append x ys zs)
    ∙ sym (add_assoc (if y == x then 1 else 0) (times x ys) (times x zs))

pub times_push_same : (x : ℕ) (ys : List ℕ) → times x (ys ++ x ∷ []) ≡ times x ys + 1
times_push_same x ys = times-append x ys (x ∷ []) ∙ rw (eq-eqb x x refl) refl

pub times_push_other : (x y : ℕ) (ys : List ℕ) → (y ≡ x → ⊥) → times x (ys ++ y ∷ []) ≡ times x ys
times_push_other x y ys n = times-append x ys (y ∷ []) ∙ rw (ne_eqb y x n) (omega arith)

module _ (plan : List StepView) where
  pub one_count_more : (missing : List ℕ) (k n : ℕ) → AreInputCounts plan missing k → n ≡ length (inputs_at plan k)
      → AreInputCounts plan (missing ++ n ∷ []) (k + 1)
  one_count_more missing k n c e = record {
    long = let l = c.long in omega (arith, length-append missing (n ∷ []));
    counts = λ j h. elim (cases_eq j k) [
      | inl same ↦ rw (get_or_push missing n 0 j (c.long ∙ sym same), same) e
      | inr other ↦ let l = c.long in get_or_append_left missing (n ∷ []) 0 j (omega arith) ∙ c.counts j (omega arith)
    ];
  }

  pub none_without : (n : ℕ) → n ≡ length plan → AreWithoutFrom plan [] n
  none_without n e = record {
    in_range = All-nil (λ x. x < length plan);
    below = λ j lt. refl;
    from = λ j le lt. absurd (omega (arith, e, le, lt));
    past = λ j le. refl;
  }

  -- one more step, which has an input
  pub one_with_inputs : (ready : List ℕ) (k n : ℕ) → n ≡ k + 1 → AreWithoutFrom plan ready n → (length (inputs_at plan k) ≡ 0 → ⊥)
      → AreWithoutFrom plan ready k
  one_with_inputs ready k n e c some = record {
    in_range = c.in_range;
    below = λ j lt. c.below j (omega arith);
    from = λ j le lt. elim (cases_eq j k) [
      | inl same ↦ subst (λ (x : ℕ). times x ready ≡ (if length (inputs_at plan x) == 0 then 1 else 0)) (sym same)
          (rw (ne_eqb (length (inputs_at plan k)) 0 some) (c.below k (omega arith)))
      | inr other ↦ c.from j (omega (arith, e, le, other)) lt
    ];
    past = c.past;
  }

  -- one more step, which has no input
  pub one_without_inputs : (ready : List ℕ) (k n : ℕ) → n ≡ k + 1 → k < length plan → AreWithoutFrom plan ready n
      → length (inputs_at plan k) ≡ 0 → AreWithoutFrom plan (ready ++ k ∷ []) k
  one_without_inputs ready k n e inside c none = record {
    in_range = All-push (λ x. x < length plan) ready k c.in_range inside;
    below = λ j lt.
        let other : k ≡ j → ⊥ = λ same. absurd (omega (arith, lt, same)) in
        times_push_other j k ready other ∙ c.below j (omega arith);
    from = λ j le lt. elim (cases_eq j k) [
      | inl same ↦ subst (λ (x : ℕ). times x (ready ++ k ∷ []) ≡ (if length (inputs_at plan x) == 0 then 1 else 0)) (sym same)
          (rw (none, times_push_same k ready) (let z = c.below k (omega arith) in omega (arith, z)))
      | inr other ↦ times_push_other j k ready (λ x. other (sym x)) ∙ c.from j (omega (arith, e, le, other)) lt
    ];
    past = λ j le.
        let other : k ≡ j → ⊥ = λ same. absurd (omega (arith, inside, le, same)) in
        times_push_other j k ready other ∙ c.past j le;
  }

  pub all_without : (ready : List ℕ) → AreWithoutFrom plan ready 0 → AreWithoutInputs plan ready (length plan)
  all_without ready c = record {
    in_range = c.in_range;
    listed = λ j. elim (cases_lt j (length plan)) [
      | inl below ↦ c.from j (omega arith) below ∙ rw (lt-ltb j (length plan) below) refl
      | inr above ↦ c.past j above ∙ rw (le-ltb j (length plan) above) refl
    ];
  }
