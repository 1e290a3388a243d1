-- Each operation of a plan is an operation of its tables, and the inputs of its step are the step numbers of the
-- operations that it requires.
use Rattle.std.proofs.Common.{◌≡◌, ℕ, zero, suc, ◌+◌, ◌<◌, ◌≤◌, Bool, true, false, List, [], ◌∷◌, ◌++◌, length, map, Some}
use Rattle.std.proofs.Common.{slice_get, refl, ap, ◌∙◌, arith, add-one}
use Rattle.std.specs.Prelude.{All, if◌then◌else◌}
use Rattle.std.specs.List.{AllByRecursion}
use Rattle.std.proofs.lemmas.List.Elements.{All-append, All-cons, All-from_recursion, All-nil}
use Rattle.std.proofs.lemmas.Option.{slice_get_within}
use Rattle.span_tables.specs.Tables.{AcceptedTables, facts_in, inters_of}
use Rattle.plan_ir.specs.Figures.{intras_at}
use Rattle.plan_ir.specs.declared.ops.Op.{Op}
use Rattle.plan_ir.specs.declared.ops.Op.TheVariants as op
use Rattle.plan_compiler.specs.Meaning.{before_inter, before_load, before_spread, before_total, before_value, wanted}
use Rattle.plan_compiler.specs.Plan.{Names, commodity_ops, each, final_ops, first_ops, inter_ops, ops_of, premium_ops}
use Rattle.plan_compiler.specs.Plan.{spread_ops, total_ops, value_ops}
use Rattle.plan_compiler.specs.Places.{inputs_of, inter_step, load_step, place_of, premium_step, tiers_step, total_step}
use Rattle.plan_compiler.proofs.LayoutLemmas.{IsPlanned, place_stands}

-- ---- every operation of the plan is an operation of the tables, and so is each operation that it requires

each_all : (P : Op → Type 0) (f : ℕ → List Op) (n : ℕ) → ((c : ℕ) → c < n → All P (f c)) → All P (each f n)
each_all P f zero h = All-nil P
each_all P f (suc n) h = All-append P (each f n) (f n) (each_all P f n (λ c lt. h c (omega (arith, lt)))) (h n (omega arith))

one : (P : Op → Type 0) (o : Op) → P o → All P (o ∷ [])
one P o h = All-cons P o [] h (All-nil P)

module _ (t : AcceptedTables) where
  known_value : (b : Bool) → (facts_in t).options_have_value ≡ b → (c : ℕ) → c < length t.commodities
      → All (IsPlanned t) (if b then op.NetValue c ∷ [] else [])
  known_value true has c lt = one (IsPlanned t) (op.NetValue c) (has, lt)
  known_value false has c lt = All-nil (IsPlanned t)

  known_premium : (b : Bool) → (facts_in t).options_have_value ≡ b
      → All (IsPlanned t) (if b then op.ValueStart ∷ [] ++ each (λ c. op.ValueAdd c ∷ []) (length t.commodities) else [])
  known_premium true has =
      All-append (IsPlanned t) (op.ValueStart ∷ []) (each (λ c. op.ValueAdd c ∷ []) (length t.commodities))
      (one (IsPlanned t) op.ValueStart has)
      (each_all (IsPlanned t) (λ c. op.ValueAdd c ∷ []) (length t.commodities)
      (λ c lt. one (IsPlanned t) (op.ValueAdd c) (has, lt)))
  known_premium false has = All-nil (IsPlanned t)

  known_commodity : (c : ℕ) → c < length t.commodities → All (IsPlanned t) (commodity_ops t c)
  known_commodity c lt =
      let n = length (intras_at t c) in
      All-append (IsPlanned t) (first_ops c ++ spread_ops c n) (final_ops t c)
      (All-append (IsPlanned t) (first_ops c) (spread_ops c n)
      (All-from_recursion (IsPlanned t) (first_ops c) (lt, (lt, (lt, (lt, (lt, tt))))))
      (each_all (IsPlanned t) (λ j. op.Spread c j ∷ []) n (λ j below. one (IsPlanned t) (op.Spread c j) (lt, below))))
      (All-append (IsPlanned t) (op.Delivery c ∷ op.Minimum c ∷ [] ++ value_ops t c) (op.Final c ∷ [])
      (All-append (IsPlanned t) (op.Delivery c ∷ op.Minimum c ∷ []) (value_ops t c)
      (All-from_recursion (IsPlanned t) (op.Delivery c ∷ op.Minimum c ∷ []) (lt, (lt, tt)))
      (known_value (facts_in t).options_have_value refl c lt))
      (one (IsPlanned t) (op.Final c) lt))

  pub known_ops : All (IsPlanned t) (ops_of t)
  known_ops =
      let n = length t.commodities in
      let m = length (inters_of t) in
      All-append (IsPlanned t) (each (commodity_ops t) n ++ inter_ops n m ++ total_ops n) (premium_ops t)
      (All-append (IsPlanned t) (each (commodity_ops t) n ++ inter_ops n m) (total_ops n)
      (All-append (IsPlanned t) (each (commodity_ops t) n) (inter_ops n m)
      (each_all (IsPlanned t) (commodity_ops t) n known_commodity)
      (All-append (IsPlanned t) (op.InterStart ∷ [] ++ each (λ c. op.InterLoad c ∷ []) n) (each (λ j. op.InterSpread j ∷ []) m)
      (All-append (IsPlanned t) (op.InterStart ∷ []) (each (λ c. op.InterLoad c ∷ []) n) (one (IsPlanned t) op.InterStart tt)
      (each_all (IsPlanned t) (λ c. op.InterLoad c ∷ []) n (λ c lt. one (IsPlanned t) (op.InterLoad c) lt)))
      (each_all (IsPlanned t) (λ j. op.InterSpread j ∷ []) m (λ j lt. one (IsPlanned t) (op.InterSpread j) lt))))
      (All-append (IsPlanned t) (op.TotalStart ∷ []) (each (λ c. op.TotalAdd c ∷ []) n) (one (IsPlanned t) op.TotalStart tt)
      (each_all (IsPlanned t) (λ c. op.TotalAdd c ∷ []) n (λ c lt. one (IsPlanned t) (op.TotalAdd c) lt))))
      (known_premium (facts_in t).options_have_value refl)

  known_before_spread : (c j : ℕ) → c < length t.commodities → j ≤ length (intras_at t c) → IsPlanned t (before_spread c j)
  known_before_spread c zero lt le = lt
  known_before_spread c (suc j) lt le = (lt, omega (arith, le))

  known_before_load : (c : ℕ) → c ≤ length t.commodities → IsPlanned t (before_load c)
  known_before_load zero le = tt
  known_before_load (suc c) le = omega (arith, le)

  known_before_inter : (j : ℕ) → j ≤ length (inters_of t) → IsPlanned t (before_inter t j)
  known_before_inter zero le = known_before_load (length t.commodities) (omega arith)
  known_before_inter (suc j) le = omega (arith, le)

  pub known_before_total : (c : ℕ) → c ≤ length t.commodities → IsPlanned t (before_total c)
  known_before_total zero le = tt
  known_before_total (suc c) le = omega (arith, le)

  pub known_before_value : (facts_in t).options_have_value ≡ true → (c : ℕ) → c ≤ length t.commodities → IsPlanned t (before_value c)
  known_before_value has zero le = has
  known_before_value has (suc c) le = (has, omega (arith, le))

  pub known_wanted : (o : Op) → IsPlanned t o → AllByRecursion (IsPlanned t) (wanted t o)
  known_wanted (op.Gather c) known = tt
  known_wanted (op.Spread c j) known = (known_before_spread c j known.0 (omega (arith, known.1)), tt)
  known_wanted (op.Delivery c) known = (known, (known_before_spread c (length (intras_at t c)) known (omega arith), tt))
  known_wanted (op.Final c) known =
      let tiers = known_before_spread c (length (intras_at t c)) known (omega arith) in
      (known, (tiers, (known, (known, (known_before_inter (length (inters_of t)) (omega arith), tt)))))
  known_wanted op.InterStart known = tt
  known_wanted (op.InterLoad c) known = (known_before_load c (omega (arith, known)), (known, (known, tt)))
  known_wanted (op.InterSpread j) known = (known_before_inter j (omega (arith, known)), tt)
  known_wanted op.TotalStart known = tt
  known_wanted (op.TotalAdd c) known = (known_before_total c (omega (arith, known)), (known, tt))
  known_wanted (op.NetValue c) known = (known.1, tt)
  known_wanted op.ValueStart known = tt
  known_wanted (op.ValueAdd c) known = (known_before_value known.0 c (omega (arith, known.1)), (known, tt))
  known_wanted o known = (known, tt)

  -- ---- the inputs of a step are the step numbers of the operations that its operation requires

  named : (os : List Op) → AllByRecursion (IsPlanned t) os → Names (ops_of t) (map (place_of t) os) os
  named [] known = refl
  named (o ∷ os) (here, rest) =
      ap (λ x. x ∷ map (slice_get (ops_of t)) (map (place_of t) os)) (place_stands t o here)
      ∙ ap (λ xs. Some o ∷ xs) (named os rest)

  pub wired : (o : Op) → IsPlanned t o → Names (ops_of t) (inputs_of t o) (wanted t o)
  wired o known = named (wanted t o) (known_wanted o known)

  places_within : (os : List Op) → AllByRecursion (IsPlanned t) os → All (λ i. i < length (ops_of t)) (map (place_of t) os)
  places_within [] known = All-nil (λ i. i < length (ops_of t))
  places_within (o ∷ os) (here, rest) =
      All-cons (λ i. i < length (ops_of t)) (place_of t o) (map (place_of t) os)
      (slice_get_within (ops_of t) (place_of t o) o (place_stands t o here)) (places_within os rest)

  pub inputs_within : (o : Op) → IsPlanned t o → All (λ i. i < length (ops_of t)) (inputs_of t o)
  inputs_within o known = places_within (wanted t o) (known_wanted o known)

  -- ---- the step numbers of the states before operations

  pub place-before_spread : (c j : ℕ) → place_of t (before_spread c j) ≡ tiers_step t c j
  place-before_spread c zero = refl
  place-before_spread c (suc j) = rw add-one refl

  pub place-before_load : (c : ℕ) → place_of t (before_load c) ≡ load_step t c
  place-before_load zero = refl
  place-before_load (suc c) = rw add-one refl

  pub place-before_inter : (j : ℕ) → place_of t (before_inter t j) ≡ inter_step t j
  place-before_inter zero =
      let same : load_step t (length t.commodities) ≡ inter_step t 0 = omega arith in
      place-before_load (length t.commodities) ∙ same
  place-before_inter (suc j) = rw add-one refl

  pub place-before_total : (c : ℕ) → place_of t (before_total c) ≡ total_step t c
  place-before_total zero = refl
  place-before_total (suc c) = let same : total_step t (c + 1) ≡ total_step t (suc c) = omega arith in same

  pub place-before_value : (c : ℕ) → place_of t (before_value c) ≡ premium_step t c
  place-before_value zero = refl
  place-before_value (suc c) = let same : premium_step t (c + 1) ≡ premium_step t (suc c) = omega arith in same
