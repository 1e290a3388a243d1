-- The inputs of a step are few, distinct, and of lower rank.
use Rattle.std.proofs.Common.{◌≡◌, ℕ, zero, suc, ◌+◌, ◌<◌, ◌≤◌, false, [], ◌∷◌, length, refl, arith}
use Rattle.std.specs.Prelude.{All, ◌==◌}
use Rattle.std.specs.List.{AllByRecursion}
use Rattle.std.proofs.lemmas.Bool.{ne_eqb}
use Rattle.std.proofs.lemmas.List.Elements.{All-from_recursion}
use Rattle.span_tables.specs.Accepted.{IsWithinLimits}
use Rattle.span_tables.specs.Tables.{commodity_id, AcceptedTables, inters_of}
use Rattle.span_tables.specs.Names.{has_repeat}
use Rattle.plan_ir.specs.Apply.{IsOp}
use Rattle.plan_ir.specs.Figures.{intras_at}
use Rattle.plan_ir.specs.declared.ops.Op.{Op}
use Rattle.plan_ir.specs.declared.ops.Op.TheVariants as op
use Rattle.plan_ir.specs.declared.plans.TheConstants.{MAX_INPUTS, MAX_STEPS}
use Rattle.plan_compiler.specs.Meaning.{before_inter, before_load, before_spread, before_total, before_value}
use Rattle.plan_compiler.specs.Meaning.{last_tiers, rank_above_spreads, rank_of, wanted}
use Rattle.plan_compiler.specs.Plan.{ops_of}
use Rattle.plan_compiler.specs.Places.{first_step, inputs_of, inter_step, load_step, premium_step, tiers_step, total_step, value_steps}
use Rattle.plan_compiler.proofs.LayoutLemmas.{few_premiums, first_before, first_small, length_ops}
use Rattle.plan_compiler.proofs.FromPlan.{place-before_inter, place-before_load, place-before_spread}
use Rattle.plan_compiler.proofs.FromPlan.{place-before_total, place-before_value}

-- ---- distinct numbers

two_apart : (a b : ℕ) → (a ≡ b → ⊥) → has_repeat (λ x y. x == y) (a ∷ b ∷ []) ≡ false
two_apart a b ab = rw (ne_eqb a b ab) refl

three_apart : (a b d : ℕ) → (a ≡ b → ⊥) → (a ≡ d → ⊥) → (b ≡ d → ⊥)
    → has_repeat (λ x y. x == y) (a ∷ b ∷ d ∷ []) ≡ false
three_apart a b d ab ad bd = rw (ne_eqb a b ab, ne_eqb a d ad, ne_eqb b d bd) refl

below : (a b : ℕ) → a < b → a ≡ b → ⊥
below a b lt e = omega (arith, lt, e)

five_rising : (a b d e f : ℕ) → a < b → b < d → d < e → e < f
    → has_repeat (λ x y. x == y) (a ∷ b ∷ d ∷ e ∷ f ∷ []) ≡ false
five_rising a b d e f ab bd de ef = rw (
  ne_eqb a b (below a b ab),
  ne_eqb a d (below a d (omega (arith, ab, bd))),
  ne_eqb a e (below a e (omega (arith, ab, bd, de))),
  ne_eqb a f (below a f (omega (arith, ab, bd, de, ef))),
  ne_eqb b d (below b d bd),
  ne_eqb b e (below b e (omega (arith, bd, de))),
  ne_eqb b f (below b f (omega (arith, bd, de, ef))),
  ne_eqb d e (below d e de),
  ne_eqb d f (below d f (omega (arith, de, ef))),
  ne_eqb e f (below e f ef),
) refl

module _ (t : AcceptedTables) (limits : IsWithinLimits t) where
  -- ---- the numbers of steps and inputs

  pub few_steps : length (ops_of t) ≤ MAX_STEPS
  few_steps =
      let small = first_small t limits (length t.commodities) in
      let commodities = limits.commodities in
      let inters = limits.few_inters in
      omega (arith, length_ops t, few_premiums t, small, commodities, inters)

  pub few_inputs : (o : Op) → length (wanted t o) ≤ MAX_INPUTS
  few_inputs (op.Final c) = omega arith
  few_inputs o = omega arith

  -- ---- distinct inputs

  pub apart : (o : Op) → IsOp t o → has_repeat (λ a b. a == b) (inputs_of t o) ≡ false
  apart (op.Delivery c) known =
      let n = length (intras_at t c) in
      rw (place-before_spread t c n) (two_apart (first_step t c + 3) (tiers_step t c n) (λ e. omega (arith, e)))
  apart (op.Final c) known =
      let before = first_before t c (length t.commodities) known in
      let tiers = tiers_step t c (length (intras_at t c)) in
      rw (place-before_spread t c (length (intras_at t c)), place-before_inter t (length (inters_of t)))
      (five_rising (first_step t c + 2) tiers (tiers + 1) (tiers + 2) (inter_step t (length (inters_of t)))
      (omega arith) (omega arith) (omega arith) (omega (arith, before)))
  apart (op.InterLoad c) known =
      let before = first_before t c (length t.commodities) known in
      rw (place-before_load t c) (three_apart (load_step t c) (first_step t c + 3) (first_step t c + 2)
      (λ e. omega (arith, e, before)) (λ e. omega (arith, e, before)) (λ e. omega (arith, e)))
  apart (op.TotalAdd c) known =
      let before = first_before t c (length t.commodities) known in
      rw (place-before_total t c) (two_apart (total_step t c) (tiers_step t c (length (intras_at t c)) + 3 + value_steps t)
      (λ e. omega (arith, e, before)))
  apart (op.ValueAdd c) known =
      let before = first_before t c (length t.commodities) known in
      rw (place-before_value t c) (two_apart (premium_step t c) (tiers_step t c (length (intras_at t c)) + 3)
      (λ e. omega (arith, e, before)))
  apart o known = refl

  -- ---- lower ranks

  before_spread_lower : (c j : ℕ) → rank_of t (before_spread c j) < 3 + j
  before_spread_lower c zero = omega arith
  before_spread_lower c (suc j) = omega arith

  before_load_lower : (c : ℕ) → rank_of t (before_load c) < 3 + c
  before_load_lower zero = omega arith
  before_load_lower (suc c) = omega arith

  before_inter_lower : (j : ℕ) → rank_of t (before_inter t j) < 3 + length t.commodities + j
  before_inter_lower zero = omega (arith, before_load_lower (length t.commodities))
  before_inter_lower (suc j) = omega arith

  before_total_lower : (c : ℕ) → rank_of t (before_total c) < 2 + rank_above_spreads + length t.commodities + length (inters_of t) + c
  before_total_lower zero = omega arith
  before_total_lower (suc c) = omega arith

  before_value_lower : (c : ℕ) → rank_of t (before_value c) < 2 + c
  before_value_lower zero = omega arith
  before_value_lower (suc c) = omega arith

  last_tiers_lower : (c : ℕ) → rank_of t (last_tiers t c) < rank_above_spreads
  last_tiers_lower c = let few = limits.few_intras (commodity_id t c) in omega (arith, few, before_spread_lower c (length (intras_at t c)))

  wanted_lower_each : (o : Op) → AllByRecursion (λ w. rank_of t w < rank_of t o) (wanted t o)
  wanted_lower_each (op.Gather c) = tt
  wanted_lower_each (op.Spread c j) = (before_spread_lower c j, tt)
  wanted_lower_each (op.Delivery c) = (omega arith, (last_tiers_lower c, tt))
  wanted_lower_each (op.Final c) =
      let inter = before_inter_lower (length (inters_of t)) in
      (omega arith, (omega (arith, last_tiers_lower c), (omega arith, (omega arith, (omega (arith, inter), tt)))))
  wanted_lower_each op.InterStart = tt
  wanted_lower_each (op.InterLoad c) = (before_load_lower c, (omega arith, (omega arith, tt)))
  wanted_lower_each (op.InterSpread j) = (before_inter_lower j, tt)
  wanted_lower_each op.TotalStart = tt
  wanted_lower_each (op.TotalAdd c) = (before_total_lower c, (omega arith, tt))
  wanted_lower_each op.ValueStart = tt
  wanted_lower_each (op.ValueAdd c) = (before_value_lower c, (omega arith, tt))
  wanted_lower_each o = (omega arith, tt)

  pub wanted_lower : (o : Op) → All (λ w. rank_of t w < rank_of t o) (wanted t o)
  wanted_lower o = All-from_recursion (λ w. rank_of t w < rank_of t o) (wanted t o) (wanted_lower_each o)
