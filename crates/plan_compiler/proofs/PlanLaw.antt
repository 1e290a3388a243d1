-- A plan keeps the plan law if it has the operations of a parameter set, each with the step numbers of the operations
-- that it requires.
use Rattle.std.proofs.Common.{◌≡◌, ℕ, ◌+◌, ◌*◌, ◌≤◌, ◌<◌, false, List, [], ◌∷◌, length, map, Some, slice_get, slice_index_or}
use Rattle.std.proofs.Common.{refl, sym, ap, subst, ◌∙◌, arith}
use Rattle.std.specs.Prelude.{All, ◌==◌}
use Rattle.std.specs.List.{AllByRecursion}
use Rattle.std.proofs.lemmas.List.{get_or-map, length-map}
use Rattle.std.proofs.lemmas.List.Elements.{All-cons, All-map, All-nil, recursion_from_All}
use Rattle.std.proofs.lemmas.Option.{get_or_from_slice_get, slice_get_within}
use Rattle.span_tables.specs.Accepted.{IsWithinLimits}
use Rattle.span_tables.specs.Names.{has_repeat}
use Rattle.span_tables.specs.Tables.{AcceptedTables, facts_in}
use Rattle.span_tables.specs.declared.limits.TheConstants.{MAX_COMMODITIES, MAX_INTER_SPREADS, MAX_INTRA_SPREADS}
use Rattle.span_tables.specs.declared.portfolios.Holding.{Holding}
use Rattle.plan_ir.specs.Apply.{IsOp}
use Rattle.plan_ir.specs.Plans.{AreInputs, StepView, inputs_at, no_step, op_at, ops_in, steps_with}
use Rattle.plan_ir.specs.declared.ops.Op.{Op}
use Rattle.plan_ir.specs.declared.ops.Op.TheVariants as op
use Rattle.plan_ir.proofs.UserLemmas.{all_ops, as_many_steps, inputs_are, op_is}
use Rattle.plan_compiler.specs.Compiled.{IsCompiled, SetView}
use Rattle.plan_compiler.specs.Meaning.{meaning, rank_of, wanted}
use Rattle.plan_compiler.specs.Plan.{IsPlanOf, ops_of}
use Rattle.plan_compiler.specs.Places.{inputs_of, place_of, plan_of}
use Rattle.plan_compiler.specs.near.Beginnings.{AreInputCounts, AreWithoutInputs}
use Rattle.plan_compiler.specs.near.Layout.{AreFirsts}
use Rattle.plan_compiler.specs.near.Sets.{IsSet}
use Rattle.plan_compiler.proofs.FromPlan.{inputs_within, known_ops, known_wanted, wired}
use Rattle.plan_compiler.proofs.LayoutLemmas.{IsPlanned, few_premiums, first_small, first_smaller, length_ops}
use Rattle.plan_compiler.proofs.LayoutLemmas.{no_premiums, place_stands, planned_is_op}
use Rattle.plan_compiler.proofs.Meanings.{gives_meaning}
use Rattle.plan_compiler.proofs.Taken.{takes_meanings}
use Rattle.plan_compiler.proofs.Wiring.{apart, few_inputs, few_steps, wanted_lower}

-- the operation at an index
op_named : (plan : List StepView) (i : ℕ) (o : Op) → slice_get (ops_in plan) i ≡ Some o → op_at plan i ≡ o
op_named plan i o e =
    let within : i < length plan = omega (arith, slice_get_within (ops_in plan) i o e, length-map plan (λ (s : StepView). s.op)) in
    sym (get_or-map (λ (s : StepView). s.op) plan i no_step op.TotalStart within)
    ∙ get_or_from_slice_get (ops_in plan) i o op.TotalStart e

map_of_map : {A B C : Type 0} (f : B → C) (g : A → B) (xs : List A) → map f (map g xs) ≡ map (λ x. f (g x)) xs
map_of_map f g [] = refl
map_of_map f g (x ∷ xs) = ap (λ ys. f (g x) ∷ ys) (map_of_map f g xs)

module _ (t : AcceptedTables) (plan : List StepView) (ops : ops_in plan ≡ ops_of t)
    (wires : (k : ℕ) → k < length plan → inputs_at plan k ≡ inputs_of t (op_at plan k)) where
  long : length plan ≡ length (ops_of t)
  long = sym (length-map plan (λ (s : StepView). s.op)) ∙ ap length ops

  op_planned : (k : ℕ) → k < length plan → IsPlanned t (op_at plan k)
  op_planned k lt =
      let at : slice_index_or (ops_in plan) k op.TotalStart ≡ op_at plan k =
      get_or-map (λ (s : StepView). s.op) plan k no_step op.TotalStart lt in
      subst (IsPlanned t) (sym (ap (λ os. slice_index_or os k op.TotalStart) ops) ∙ at)
      (known_ops t k op.TotalStart (omega (arith, lt, long)))

  op_known : (k : ℕ) → k < length plan → IsOp t (op_at plan k)
  op_known k lt = planned_is_op t (op_at plan k) (op_planned k lt)

  stands : (o : Op) → IsPlanned t o → op_at plan (place_of t o) ≡ o
  stands o known = op_named plan (place_of t o) o (ap (λ os. slice_get os (place_of t o)) ops ∙ place_stands t o known)

  ops_at_places : (os : List Op) → AllByRecursion (IsPlanned t) os → map (op_at plan) (map (place_of t) os) ≡ os
  ops_at_places [] known = refl
  ops_at_places (o ∷ os) (here, rest) =
      ap (λ x. x ∷ map (op_at plan) (map (place_of t) os)) (stands o here) ∙ ap (λ xs. o ∷ xs) (ops_at_places os rest)

  -- the operations of a step's inputs are the operations that the step's operation requires
  input_ops : (k : ℕ) → k < length plan → map (op_at plan) (inputs_at plan k) ≡ wanted t (op_at plan k)
  input_ops k lt =
      ap (map (op_at plan)) (wires k lt) ∙ ops_at_places (wanted t (op_at plan k)) (known_wanted t (op_at plan k) (op_planned k lt))

  inputs_mean : (holdings : List Holding) (k : ℕ) → k < length plan
      → map (λ i. meaning t holdings (op_at plan i)) (inputs_at plan k) ≡ map (meaning t holdings) (wanted t (op_at plan k))
  inputs_mean holdings k lt =
      sym (map_of_map (meaning t holdings) (op_at plan) (inputs_at plan k))
      ∙ ap (map (meaning t holdings)) (input_ops k lt)

  pub is_plan : IsPlanOf t plan
  is_plan = record {
    ops = ops;
    wired = λ k lt. rw (wires k lt, ops) (wired t (op_at plan k) (op_planned k lt));
  }

  lower_inputs : (R : ℕ) (os : List Op) → AllByRecursion (IsPlanned t) os → AllByRecursion (λ w. rank_of t w < R) os
      → All (λ i. rank_of t (op_at plan i) < R) (map (place_of t) os)
  lower_inputs R [] known lower = All-nil (λ i. rank_of t (op_at plan i) < R)
  lower_inputs R (o ∷ os) (here, rest) (low, lows) =
      All-cons (λ i. rank_of t (op_at plan i) < R) (place_of t o) (map (place_of t) os)
      (subst (λ w. rank_of t w < R) (sym (stands o here)) low) (lower_inputs R os rest lows)

  pub compiled : IsWithinLimits t → IsCompiled (record { tables = t; plan = plan })
  compiled limits = record {
    few_steps = let few = few_steps t limits in omega (arith, few, long);
    in_range = λ k lt. rw (wires k lt, long) (inputs_within t (op_at plan k) (op_planned k lt));
    few_inputs = λ k lt. let few = few_inputs t limits (op_at plan k) in
        omega (arith, few, ap length (wires k lt), length-map (wanted t (op_at plan k)) (place_of t));
    distinct = λ k lt. rw (wires k lt) (apart t limits (op_at plan k) (op_known k lt));
    rank = λ k. rank_of t (op_at plan k);
    lower = λ k lt. rw (wires k lt) (lower_inputs (rank_of t (op_at plan k)) (wanted t (op_at plan k))
        (known_wanted t (op_at plan k) (op_planned k lt))
        (recursion_from_All (λ w. rank_of t w < rank_of t (op_at plan k)) (wanted t (op_at plan k))
        (wanted_lower t limits (op_at plan k))));
    taken = λ holdings fits k lt. rw (inputs_mean holdings k lt)
        (takes_meanings t holdings limits fits.portfolio fits.known (op_at plan k) (op_known k lt));
    gives = λ holdings fits k lt. rw (inputs_mean holdings k lt) (gives_meaning t holdings (op_at plan k) (op_known k lt));
  }

-- ---- the step of a compiled set at the index of an operation

pub step_at_place : (t : AcceptedTables) (plan : List StepView) (firsts missing ready : List ℕ) → IsSet t plan firsts missing ready
    → (set : SetView) → record { tables = t; plan = plan } ≡ set → (o : Op) → IsPlanned t o → (k : ℕ) → k ≡ place_of t o
    → (k < length set.plan) × (op_at set.plan k ≡ o)
step_at_place t plan firsts missing ready is set same o planned k at =
    let ops = is.is_plan.ops in
    let within = slice_get_within (ops_of t) (place_of t o) o (place_stands t o planned) in
    let inside : place_of t o < length plan = omega (arith, within, long t plan ops is.wires) in
    rw (← same, at) (inside, stands t plan ops is.wires o planned)

-- ---- the plan of accepted tables

module _ (t : AcceptedTables) where
  lists_long : length (map (inputs_of t) (ops_of t)) ≡ length (ops_of t)
  lists_long = length-map (ops_of t) (inputs_of t)

  plan_ops : ops_in (plan_of t) ≡ ops_of t
  unfolding plan_of
  plan_ops = all_ops (ops_of t) (map (inputs_of t) (ops_of t)) lists_long

  plan_wires : (k : ℕ) → k < length (plan_of t) → inputs_at (plan_of t) k ≡ inputs_of t (op_at (plan_of t) k)
  unfolding plan_of
  plan_wires k lt =
      let lists = map (inputs_of t) (ops_of t) in
      let below : k < length (ops_of t) = omega (arith, lt, as_many_steps (ops_of t) lists lists_long) in
      sym (inputs_are (ops_of t) lists k lists_long below)
      ∙ get_or-map (inputs_of t) (ops_of t) k op.TotalStart [] below
      ∙ ap (inputs_of t) (op_is (ops_of t) lists k op.TotalStart lists_long below)

  -- each input of a step is the step of the required operation
  pub plan_is_wired : IsPlanOf t (plan_of t)
  plan_is_wired = is_plan t (plan_of t) plan_ops plan_wires

  -- the plan of accepted tables keeps the plan law
  pub plan_keeps_law : IsWithinLimits t → IsCompiled (record { tables = t; plan = plan_of t })
  plan_keeps_law limits = compiled t (plan_of t) plan_ops plan_wires limits

  -- the plan of accepted tables is no longer than the plan of the largest parameter set
  pub value_plan_is_short : IsWithinLimits t
      → length (plan_of t) ≤ MAX_COMMODITIES * (12 + MAX_INTRA_SPREADS) + 1 + MAX_INTER_SPREADS + 1 + 1
  unfolding plan_of
  value_plan_is_short limits =
      let small = first_small t limits (length t.commodities) in
      let commodities = limits.commodities in
      let inters = limits.few_inters in
      let many = as_many_steps (ops_of t) (map (inputs_of t) (ops_of t)) lists_long in
      omega (arith, many, length_ops t, few_premiums t, small, commodities, inters)

  -- a smaller bound if options have no value
  pub plan_is_short : IsWithinLimits t → (facts_in t).options_have_value ≡ false
      → length (plan_of t) ≤ MAX_COMMODITIES * (10 + MAX_INTRA_SPREADS) + 1 + MAX_INTER_SPREADS + 1
  unfolding plan_of
  plan_is_short limits none =
      let small = first_smaller t limits none (length t.commodities) in
      let commodities = limits.commodities in
      let inters = limits.few_inters in
      let many = as_many_steps (ops_of t) (map (inputs_of t) (ops_of t)) lists_long in
      omega (arith, many, length_ops t, no_premiums t none, small, commodities, inters)

  pub are_inputs : IsWithinLimits t → AreInputs (ops_of t) (map (inputs_of t) (ops_of t))
  are_inputs limits = record {
    few = few_steps t limits;
    as_many = lists_long;
    in_range = All-map (λ inputs. All (λ i. i < length (ops_of t)) inputs) (inputs_of t) (ops_of t)
        (λ k d lt. inputs_within t (slice_index_or (ops_of t) k d) (known_ops t k d lt));
    distinct = All-map (λ inputs. has_repeat (λ a b. a == b) inputs ≡ false) (inputs_of t) (ops_of t)
        (λ k d lt. apart t limits (slice_index_or (ops_of t) k d) (planned_is_op t (slice_index_or (ops_of t) k d) (known_ops t k d lt)));
  }

  -- the plan made from the operations and their inputs is the plan of the tables
  pub made_plan : (plan : List StepView) (items seen : List Op) (lists : List (List ℕ))
      → plan ≡ steps_with items lists → lists ≡ map (inputs_of t) seen → seen ≡ items → items ≡ ops_of t
      → plan ≡ plan_of t
  unfolding plan_of
  made_plan plan items seen lists plan_is lists_are same items_are =
      plan_is ∙ ap (steps_with items) (lists_are ∙ ap (map (inputs_of t)) (same ∙ items_are))
      ∙ ap (λ os. steps_with os (map (inputs_of t) (ops_of t))) items_are

  pub made_set : IsWithinLimits t → (plan : List StepView) (firsts missing ready : List ℕ) → plan ≡ plan_of t
      → AreFirsts t firsts → AreInputCounts plan missing (length plan) → AreWithoutInputs plan ready (length plan)
      → IsSet t plan firsts missing ready
  made_set limits plan firsts missing ready is firsts_are missing_are ready_are =
      let counts = rw is at missing_are in
      let without = rw is at ready_are in
      rw is (record {
        limits = limits;
        is_plan = plan_is_wired;
        compiled = plan_keeps_law limits;
        wires = plan_wires;
        firsts_are = firsts_are;
        missing_are = counts;
        ready_are = without;
      })
