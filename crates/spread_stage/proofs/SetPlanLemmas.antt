-- The plans of the commodities of a parameter set, one after the other.
use Rattle.std.proofs.Common.{◌≡◌, ℕ, ◌+◌, ◌<◌, ◌≤◌, ◌==◌, Bool, true, false, List, [], ◌∷◌, ◌++◌}
use Rattle.std.proofs.Common.{refl, sym, ap, ◌∙◌, subst, arith, get_or, length}
use Rattle.std.proofs.lemmas.Bool.Decides.{nat_tests}
use Rattle.std.proofs.lemmas.List.{get_or_append_left, get_or_push, length-append}
use Rattle.span_tables.specs.Names.{has_repeat}
use Rattle.span_tables.specs.Rules.{share_month}
use Rattle.span_tables.specs.Tables.{AcceptedTables, commodity_id, intras_of, spots_of, tiers_of}
use Rattle.span_tables.specs.declared.limits.TheConstants.{MAX_TIERS}
use Rattle.span_tables.specs.declared.records.Intra.{Intra}
use Rattle.span_tables.specs.declared.records.Spot.{Spot}
use Rattle.span_tables.specs.declared.records.Tier.{Tier}
use Rattle.span_tables.proofs.TierLists.{tiers_disjoint}
use Rattle.spread_stage.specs.near.SetPlans.{IsPlan, IsPlanOf}
use Rattle.spread_stage.specs.near.TierPlans.{no_tier}
use Rattle.spread_stage.specs.near.TierSums.{AreTiers}
use Rattle.spread_stage.specs.declared.tier_plans.TierPlan.{TierPlan}

-- tiers within their limit, and no two of them share a month
pub tiers_are : (tiers : List Tier) → length tiers ≤ MAX_TIERS → has_repeat share_month tiers ≡ false → AreTiers tiers
tiers_are tiers few apart = record {
  few = few;
  apart = λ i j lt_i lt_j other m first second.
      tiers_disjoint tiers apart i j lt_i lt_j other no_tier m.month (grind (arith, nat_tests, first)) (grind (arith, nat_tests, first))
      (grind (arith, nat_tests, second)) (grind (arith, nat_tests, second));
}

-- the plans of the first commodities
pub record AreFirstPlans (t : AcceptedTables) (count : ℕ) (plans : List TierPlan) : Type 0 where
  pub every : length plans ≡ count
  pub each : (c : ℕ) → c < count → (d : TierPlan) → IsPlan t (commodity_id t c) (get_or plans c d)

-- the plan of a commodity was made from its tiers, spreads and spot months
pub plan_made : (t : AcceptedTables) (id : List ℕ) (plan : TierPlan) (tiers : List Tier) (intras : List Intra) (spots : List Spot)
    → tiers ≡ tiers_of t id → intras ≡ intras_of t id → spots ≡ spots_of t id → IsPlanOf tiers intras spots plan → IsPlan t id plan
plan_made t id plan tiers intras spots first second third made =
    subst (λ ss. IsPlanOf (tiers_of t id) (intras_of t id) ss plan) third
    (subst (λ xs. IsPlanOf (tiers_of t id) xs spots plan) second (subst (λ ts. IsPlanOf ts intras spots plan) first made))

plan_at : (t : AcceptedTables) (count : ℕ) (plans : List TierPlan) (plan : TierPlan) (c : ℕ) (d : TierPlan) (b : Bool) → (c == count) ≡ b
    → AreFirstPlans t count plans → IsPlan t (commodity_id t count) plan → c < count + 1
    → IsPlan t (commodity_id t c) (get_or (plans ++ plan ∷ []) c d)
plan_at t count plans plan c d true e are new lt =
    let at : c ≡ count = grind (arith, nat_tests, e) in
    let here : get_or (plans ++ plan ∷ []) c d ≡ plan =
    ap (λ n. get_or (plans ++ plan ∷ []) n d) at ∙ get_or_push plans plan d count are.every in
    subst (IsPlan t (commodity_id t c)) (sym here) (subst (λ n. IsPlan t (commodity_id t n) plan) (sym at) new)
plan_at t count plans plan c d false e are new lt =
    let below : c < count = grind (arith, nat_tests, e, lt) in
    let here : get_or (plans ++ plan ∷ []) c d ≡ get_or plans c d =
    get_or_append_left plans (plan ∷ []) d c (let every = are.every in omega (arith, below, every)) in
    subst (IsPlan t (commodity_id t c)) (sym here) (are.each c below d)

-- one more plan
pub plans_more : (t : AcceptedTables) (count : ℕ) (plans now : List TierPlan) (plan : TierPlan) → AreFirstPlans t count plans
    → IsPlan t (commodity_id t count) plan → now ≡ plans ++ plan ∷ [] → AreFirstPlans t (count + 1) now
plans_more t count plans now plan are new step = record {
  every = (let a = ap length step in let b = length-append plans (plan ∷ []) in let every = are.every in omega (arith, a, b, every));
  each = λ c lt d. subst (λ ps. IsPlan t (commodity_id t c) (get_or ps c d)) (sym step)
      (plan_at t count plans plan c d (c == count) refl are new lt);
}
