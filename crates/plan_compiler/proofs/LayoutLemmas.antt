-- The step numbers of a plan.
use Rattle.std.proofs.Common.{◌≡◌, ℕ, zero, suc, ◌+◌, ◌*◌, ◌<◌, ◌≤◌, Bool, true, false, List, [], ◌∷◌, ◌++◌, length, Some}
use Rattle.std.proofs.Common.{slice_get, refl, sym, ap, ◌∙◌, arith, add-one, inl, inr}
use Rattle.std.specs.Prelude.{if◌then◌else◌}
use Rattle.std.proofs.lemmas.Bool.{cases_eq}
use Rattle.std.proofs.lemmas.List.{append_assoc, length-append}
use Rattle.span_tables.specs.Accepted.{IsWithinLimits}
use Rattle.span_tables.specs.Tables.{commodity_id, AcceptedTables, facts_in, inters_of}
use Rattle.span_tables.specs.declared.limits.TheConstants.{MAX_INTRA_SPREADS}
use Rattle.plan_ir.specs.Apply.{IsOp}
use Rattle.plan_ir.specs.Figures.{intras_at}
use Rattle.plan_ir.specs.declared.ops.Op.{Op}
use Rattle.plan_ir.specs.declared.ops.Op.TheVariants as op
use Rattle.plan_compiler.specs.Plan.{commodity_ops, each, final_ops, first_ops, inter_ops, ops_of, premium_ops}
use Rattle.plan_compiler.specs.Plan.{spread_ops, total_ops, value_ops}
use Rattle.plan_compiler.specs.declared.layout.TheConstants.{COMMODITY_STEPS, VALUE_STEPS}
use Rattle.plan_compiler.specs.Places.{first_step, place_of, premium_step, total_step, value_steps}

-- the operation is in the plan: its numbers are numbers of the tables, and if it computes an option value, options have
-- one
abbrev pub IsPlanned : AcceptedTables → Op → Type 0
IsPlanned t (op.NetValue c) = ((facts_in t).options_have_value ≡ true) × (c < length t.commodities)
IsPlanned t op.ValueStart = (facts_in t).options_have_value ≡ true
IsPlanned t (op.ValueAdd c) = ((facts_in t).options_have_value ≡ true) × (c < length t.commodities)
IsPlanned t o = IsOp t o

pub planned_is_op : (t : AcceptedTables) (o : Op) → IsPlanned t o → IsOp t o
planned_is_op t (op.NetValue c) is = is.1
planned_is_op t op.ValueStart is = tt
planned_is_op t (op.ValueAdd c) is = is.1
planned_is_op t o is = is

-- operations for one more number
pub each_more : (f : ℕ → List Op) (n : ℕ) → each f (n + 1) ≡ each f n ++ f n
each_more f n = rw add-one refl

-- operations for one more number, appended to other operations
pub each_appended : (f : ℕ → List Op) (n : ℕ) (old now new : List Op) → now ≡ old ++ each f n → new ≡ now ++ f n
    → new ≡ old ++ each f (n + 1)
each_appended f n old now new e more =
    more ∙ ap (λ xs. xs ++ f n) e ∙ append_assoc old (each f n) (f n) ∙ ap (λ xs. old ++ xs) (sym (each_more f n))

-- ---- lengths

pub length_singles : (f : ℕ → List Op) → ((c : ℕ) → length (f c) ≡ 1) → (n : ℕ) → length (each f n) ≡ n
length_singles f one zero = refl
length_singles f one (suc n) =
    let rest = length_singles f one n in
    let last = one n in
    omega (arith, length-append (each f n) (f n), rest, last)

pub length_spreads : (c n : ℕ) → length (spread_ops c n) ≡ n
length_spreads c n = length_singles (λ j. op.Spread c j ∷ []) (λ j. refl) n

-- the number of steps of an option value, whether or not there is one
length_value : (b : Bool) (o : Op) → length (if b then o ∷ [] else []) ≡ (if b then VALUE_STEPS else 0)
length_value true o = refl
length_value false o = refl

few_value : (b : Bool) → (if b then VALUE_STEPS else 0) ≤ VALUE_STEPS
few_value true = omega arith
few_value false = omega arith

-- the number of steps of the option value is within its limit
pub value_steps_small : (t : AcceptedTables) → value_steps t ≤ VALUE_STEPS
value_steps_small t = few_value (facts_in t).options_have_value

no_value_steps : (t : AcceptedTables) → (facts_in t).options_have_value ≡ false → value_steps t ≡ 0
no_value_steps t none = ap (λ (b : Bool). if b then VALUE_STEPS else 0) none

-- the steps of a commodity between its spreads and its figures
abbrev charges : AcceptedTables → ℕ → List Op
charges t c = op.Delivery c ∷ op.Minimum c ∷ [] ++ value_ops t c

length_charges : (t : AcceptedTables) (c : ℕ) → length (charges t c) ≡ 2 + value_steps t
length_charges t c =
    let value = length_value (facts_in t).options_have_value (op.NetValue c) in
    omega (arith, value, length-append (op.Delivery c ∷ op.Minimum c ∷ []) (value_ops t c))

length_commodity : (t : AcceptedTables) (c : ℕ)
    → length (commodity_ops t c) ≡ COMMODITY_STEPS + value_steps t + length (intras_at t c)
length_commodity t c =
    let n = length (intras_at t c) in
    let spreads = length_spreads c n in
    let front = length-append (first_ops c) (spread_ops c n) in
    let all = length-append (first_ops c ++ spread_ops c n) (final_ops t c) in
    let back = length-append (charges t c) (op.Final c ∷ []) in
    omega (arith, spreads, front, all, back, length_charges t c)

-- the first step of the next commodity follows all steps of this one
pub first_more : (t : AcceptedTables) (c : ℕ)
    → first_step t (c + 1) ≡ first_step t c + (COMMODITY_STEPS + value_steps t + length (intras_at t c))
first_more t c =
    ap length (each_more (commodity_ops t) c) ∙ length-append (each (commodity_ops t) c) (commodity_ops t c)
    ∙ ap (λ n. first_step t c + n) (length_commodity t c)

-- a bound on the number of steps before a commodity's first step
pub first_small : (t : AcceptedTables) → IsWithinLimits t → (c : ℕ)
    → first_step t c ≤ c * (COMMODITY_STEPS + VALUE_STEPS + MAX_INTRA_SPREADS)
first_small t limits zero = omega arith
first_small t limits (suc c) =
    let before = first_small t limits c in
    let here = length_commodity t c in
    let few = limits.few_intras (commodity_id t c) in
    omega (arith, before, here, few, value_steps_small t, length-append (each (commodity_ops t) c) (commodity_ops t c))

-- a smaller bound if options have no value
pub first_smaller : (t : AcceptedTables) → IsWithinLimits t → (facts_in t).options_have_value ≡ false → (c : ℕ)
    → first_step t c ≤ c * (COMMODITY_STEPS + MAX_INTRA_SPREADS)
first_smaller t limits none zero = omega arith
first_smaller t limits none (suc c) =
    let before = first_smaller t limits none c in
    let here = length_commodity t c in
    let few = limits.few_intras (commodity_id t c) in
    omega (arith, before, here, few, no_value_steps t none, length-append (each (commodity_ops t) c) (commodity_ops t c))

-- ---- the step at an index

at_front : (xs ys : List Op) (i : ℕ) (o : Op) → slice_get xs i ≡ Some o → slice_get (xs ++ ys) i ≡ Some o
at_front [] ys i o e = absurd cc
at_front (x ∷ xs) ys zero o e = e
at_front (x ∷ xs) ys (suc i) o e = at_front xs ys i o e

at_back : (xs ys : List Op) (i k : ℕ) (o : Op) → slice_get ys i ≡ Some o → k ≡ length xs + i → slice_get (xs ++ ys) k ≡ Some o
at_back xs ys i k o e at = ap (slice_get (xs ++ ys)) at ∙ behind xs ∙ e where
  behind : (zs : List Op) → slice_get (zs ++ ys) (length zs + i) ≡ slice_get ys i
  behind [] = let none : 0 + i ≡ i = omega arith in ap (slice_get ys) none
  behind (z ∷ zs) =
      let next : suc (length zs) + i ≡ suc (length zs + i) = omega arith in
      ap (slice_get (z ∷ (zs ++ ys))) next ∙ behind zs

-- the steps of number c follow the steps of all numbers below c
at_each : (f : ℕ → List Op) (n c i k : ℕ) (o : Op) → c < n → slice_get (f c) i ≡ Some o
    → k ≡ length (each f c) + i → slice_get (each f n) k ≡ Some o
at_each f zero c i k o lt e at = elim lt [ ]
at_each f (suc n) c i k o lt e at = elim (cases_eq c n) [
  | inl same ↦ at_back (each f n) (f n) i k o (rw (← same) e) (rw (← same) at)
  | inr other ↦ at_front (each f n) (f n) k o (at_each f n c i k o (omega (arith, lt, other)) e at)
]

at_single : (f : ℕ → List Op) → ((c : ℕ) → length (f c) ≡ 1) → (n c k : ℕ) (o : Op) → c < n
    → slice_get (f c) 0 ≡ Some o → k ≡ c → slice_get (each f n) k ≡ Some o
at_single f one n c k o lt e at = at_each f n c 0 k o lt e (omega (arith, at, length_singles f one c))

module _ (t : AcceptedTables) where
  -- the steps before the steps of the account's option value
  abbrev margin_ops : List Op
  margin_ops =
      each (commodity_ops t) (length t.commodities) ++ inter_ops (length t.commodities) (length (inters_of t))
      ++ total_ops (length t.commodities)

  in_margin : (k : ℕ) (o : Op) → slice_get margin_ops k ≡ Some o → slice_get (ops_of t) k ≡ Some o
  in_margin k o e = at_front margin_ops (premium_ops t) k o e

  in_commodity : (c i k : ℕ) (o : Op) → c < length t.commodities → slice_get (commodity_ops t c) i ≡ Some o
      → k ≡ first_step t c + i → slice_get (ops_of t) k ≡ Some o
  in_commodity c i k o lt e at =
      let n = length t.commodities in
      in_margin k o
      (at_front (each (commodity_ops t) n ++ inter_ops n (length (inters_of t))) (total_ops n) k o
      (at_front (each (commodity_ops t) n) (inter_ops n (length (inters_of t))) k o
      (at_each (commodity_ops t) n c i k o lt e at)))

  in_first : (c i k : ℕ) (o : Op) → c < length t.commodities → slice_get (first_ops c) i ≡ Some o → k ≡ first_step t c + i
      → slice_get (ops_of t) k ≡ Some o
  in_first c i k o lt e at =
      let between = spread_ops c (length (intras_at t c)) in
      in_commodity c i k o lt (at_front (first_ops c ++ between) (final_ops t c) i o (at_front (first_ops c) between i o e)) at

  in_spreads : (c j k : ℕ) → c < length t.commodities → j < length (intras_at t c) → k ≡ first_step t c + (5 + j)
      → slice_get (ops_of t) k ≡ Some (op.Spread c j)
  in_spreads c j k lt below at =
      let between = spread_ops c (length (intras_at t c)) in
      in_commodity c (5 + j) k (op.Spread c j) lt
      (at_front (first_ops c ++ between) (final_ops t c) (5 + j) (op.Spread c j)
      (at_back (first_ops c) between j (5 + j) (op.Spread c j)
      (at_single (λ i. op.Spread c i ∷ []) (λ i. refl) (length (intras_at t c)) j j (op.Spread c j) below refl refl) refl)) at

  in_final : (c i k : ℕ) (o : Op) → c < length t.commodities → slice_get (final_ops t c) i ≡ Some o
      → k ≡ first_step t c + (5 + length (intras_at t c) + i) → slice_get (ops_of t) k ≡ Some o
  in_final c i k o lt e at =
      let n = length (intras_at t c) in
      let between = spread_ops c n in
      let long = length-append (first_ops c) between in
      in_commodity c (5 + n + i) k o lt
      (at_back (first_ops c ++ between) (final_ops t c) i (5 + n + i) o e (omega (arith, long, length_spreads c n))) at

  -- among the steps after the spreads: the option value if there is one, and then the figures
  value_here : (b : Bool) (c : ℕ) → b ≡ true
      → slice_get (op.Delivery c ∷ op.Minimum c ∷ [] ++ (if b then op.NetValue c ∷ [] else []) ++ op.Final c ∷ []) 2
      ≡ Some (op.NetValue c)
  value_here true c e = refl
  value_here false c e = cc

  figures_here : (c : ℕ) → slice_get (final_ops t c) (2 + value_steps t) ≡ Some (op.Final c)
  figures_here c =
      let long = length_charges t c in
      at_back (charges t c) (op.Final c ∷ []) 0 (2 + value_steps t) (op.Final c) refl (omega (arith, long))

  in_inter : (i k : ℕ) (o : Op) → slice_get (inter_ops (length t.commodities) (length (inters_of t))) i ≡ Some o
      → k ≡ first_step t (length t.commodities) + i → slice_get (ops_of t) k ≡ Some o
  in_inter i k o e at =
      let n = length t.commodities in
      let front = each (commodity_ops t) n in
      let between = inter_ops n (length (inters_of t)) in
      in_margin k o (at_front (front ++ between) (total_ops n) k o (at_back front between i k o e at))

  -- the first step between commodities, and the steps that load commodities
  abbrev loads : List Op
  loads = op.InterStart ∷ [] ++ each (λ c. op.InterLoad c ∷ []) (length t.commodities)

  length_loads : length loads ≡ 1 + length t.commodities
  length_loads =
      let n = length t.commodities in
      let many = length_singles (λ c. op.InterLoad c ∷ []) (λ c. refl) n in
      omega (arith, many, length-append (op.InterStart ∷ []) (each (λ c. op.InterLoad c ∷ []) n))

  pub length_inter : length (inter_ops (length t.commodities) (length (inters_of t))) ≡ 1 + length t.commodities + length (inters_of t)
  length_inter =
      let m = length (inters_of t) in
      let many = length_singles (λ j. op.InterSpread j ∷ []) (λ j. refl) m in
      omega (arith, many, length_loads, length-append loads (each (λ j. op.InterSpread j ∷ []) m))

  in_loads : (i : ℕ) (o : Op) → slice_get loads i ≡ Some o
      → slice_get (inter_ops (length t.commodities) (length (inters_of t))) i ≡ Some o
  in_loads i o e = at_front loads (each (λ j. op.InterSpread j ∷ []) (length (inters_of t))) i o e

  in_total : (i k : ℕ) (o : Op) → slice_get (total_ops (length t.commodities)) i ≡ Some o
      → k ≡ total_step t 0 + i → slice_get (ops_of t) k ≡ Some o
  in_total i k o e at =
      let n = length t.commodities in
      let front = each (commodity_ops t) n in
      let between = inter_ops n (length (inters_of t)) in
      in_margin k o (at_back (front ++ between) (total_ops n) i k o e (omega (arith, at, length_inter, length-append front between)))

  -- the steps of the account's option value, if there are any
  abbrev premiums : List Op
  premiums = op.ValueStart ∷ [] ++ each (λ c. op.ValueAdd c ∷ []) (length t.commodities)

  premiums_here : (b : Bool) → b ≡ true → (i : ℕ) (o : Op) → slice_get premiums i ≡ Some o
      → slice_get (if b then premiums else []) i ≡ Some o
  premiums_here true is i o e = e
  premiums_here false is i o e = cc

  length_total : length (total_ops (length t.commodities)) ≡ 1 + length t.commodities
  length_total =
      let n = length t.commodities in
      let adds = length_singles (λ c. op.TotalAdd c ∷ []) (λ c. refl) n in
      omega (arith, adds, length-append (op.TotalStart ∷ []) (each (λ c. op.TotalAdd c ∷ []) n))

  length_margin : length margin_ops ≡ first_step t (length t.commodities) + (2 + 2 * length t.commodities + length (inters_of t))
  length_margin =
      let n = length t.commodities in
      let m = length (inters_of t) in
      let front = length-append (each (commodity_ops t) n) (inter_ops n m) in
      let all = length-append (each (commodity_ops t) n ++ inter_ops n m) (total_ops n) in
      omega (arith, front, all, length_inter, length_total)

  in_premium : (i k : ℕ) (o : Op) → (facts_in t).options_have_value ≡ true → slice_get premiums i ≡ Some o → k ≡ premium_step t 0 + i
      → slice_get (ops_of t) k ≡ Some o
  in_premium i k o has e at =
      at_back margin_ops (premium_ops t) i k o (premiums_here (facts_in t).options_have_value has i o e) (omega (arith, at, length_margin))

  -- each operation of the tables is at its index
  pub place_stands : (o : Op) → IsPlanned t o → slice_get (ops_of t) (place_of t o) ≡ Some o
  place_stands (op.Gather c) known = in_first c 0 _ (op.Gather c) known refl (omega arith)
  place_stands (op.Sums c) known = in_first c 1 _ (op.Sums c) known refl refl
  place_stands (op.ScanMax c) known = in_first c 2 _ (op.ScanMax c) known refl refl
  place_stands (op.Months c) known = in_first c 3 _ (op.Months c) known refl refl
  place_stands (op.TierStart c) known = in_first c 4 _ (op.TierStart c) known refl (omega arith)
  place_stands (op.Spread c j) known = in_spreads c j _ known.0 known.1 (omega arith)
  place_stands (op.Delivery c) known = in_final c 0 _ (op.Delivery c) known refl (omega arith)
  place_stands (op.Minimum c) known = in_final c 1 _ (op.Minimum c) known refl (omega arith)
  place_stands (op.Final c) known = in_final c (2 + value_steps t) _ (op.Final c) known (figures_here c) (omega arith)
  place_stands op.InterStart known = in_inter 0 _ op.InterStart (in_loads 0 op.InterStart refl) refl
  place_stands (op.InterLoad c) known =
      in_inter (1 + c) _ (op.InterLoad c)
      (in_loads (1 + c) (op.InterLoad c)
      (at_back (op.InterStart ∷ []) (each (λ n. op.InterLoad n ∷ []) (length t.commodities)) c (1 + c) (op.InterLoad c)
      (at_single (λ n. op.InterLoad n ∷ []) (λ n. refl) (length t.commodities) c c (op.InterLoad c) known refl refl) refl))
      (omega arith)
  place_stands (op.InterSpread j) known =
      let n = length t.commodities in
      let m = length (inters_of t) in
      in_inter (1 + n + j) _ (op.InterSpread j)
      (at_back loads (each (λ i. op.InterSpread i ∷ []) m) j (1 + n + j) (op.InterSpread j)
      (at_single (λ i. op.InterSpread i ∷ []) (λ i. refl) m j j (op.InterSpread j) known refl refl)
      (omega (arith, length_loads)))
      (omega arith)
  place_stands op.TotalStart known = in_total 0 _ op.TotalStart refl (omega arith)
  place_stands (op.TotalAdd c) known =
      in_total (1 + c) _ (op.TotalAdd c)
      (at_back (op.TotalStart ∷ []) (each (λ n. op.TotalAdd n ∷ []) (length t.commodities)) c (1 + c) (op.TotalAdd c)
      (at_single (λ n. op.TotalAdd n ∷ []) (λ n. refl) (length t.commodities) c c (op.TotalAdd c) known refl refl) refl)
      (omega arith)
  place_stands (op.NetValue c) known =
      in_final c 2 _ (op.NetValue c) known.1 (value_here (facts_in t).options_have_value c known.0) (omega arith)
  place_stands op.ValueStart known = in_premium 0 _ op.ValueStart known refl (omega arith)
  place_stands (op.ValueAdd c) known =
      in_premium (1 + c) _ (op.ValueAdd c) known.0
      (at_back (op.ValueStart ∷ []) (each (λ n. op.ValueAdd n ∷ []) (length t.commodities)) c (1 + c) (op.ValueAdd c)
      (at_single (λ n. op.ValueAdd n ∷ []) (λ n. refl) (length t.commodities) c c (op.ValueAdd c) known.1 refl refl) refl)
      (omega arith)

  -- the steps of a commodity precede the first step of any later one, and all steps between commodities
  pub first_before : (c n : ℕ) → c < n
      → first_step t c + (COMMODITY_STEPS + value_steps t + length (intras_at t c)) ≤ first_step t n
  first_before c zero lt = elim lt [ ]
  first_before c (suc n) lt = elim (cases_eq c n) [
    | inl same ↦
        let here = first_more t c in
        let more : first_step t (c + 1) ≡ first_step t (suc n) = rw same (rw add-one refl) in
        omega (arith, here, more)
    | inr other ↦
        let before = first_before c n (omega (arith, lt, other)) in
        let more = length-append (each (commodity_ops t) n) (commodity_ops t n) in
        omega (arith, before, more)
  ]

  -- the number of steps
  premiums_long : (b : Bool) → length (if b then premiums else []) ≤ 1 + length t.commodities
  premiums_long true =
      let adds = length_singles (λ c. op.ValueAdd c ∷ []) (λ c. refl) (length t.commodities) in
      omega (arith, adds, length-append (op.ValueStart ∷ []) (each (λ c. op.ValueAdd c ∷ []) (length t.commodities)))
  premiums_long false = omega arith

  pub few_premiums : length (premium_ops t) ≤ 1 + length t.commodities
  few_premiums = premiums_long (facts_in t).options_have_value

  pub no_premiums : (facts_in t).options_have_value ≡ false → length (premium_ops t) ≡ 0
  no_premiums none = ap (λ (b : Bool). length (if b then premiums else [])) none

  pub length_ops : length (ops_of t) ≡ first_step t (length t.commodities) + (2 + 2 * length t.commodities + length (inters_of t))
      + length (premium_ops t)
  length_ops = omega (arith, length_margin, length-append margin_ops (premium_ops t))
