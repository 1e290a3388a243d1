-- The numbers of the tiers of legs, and spreads by these numbers.
use Rattle.std.proofs.Common.{◌≡◌, ℕ, suc, ◌+◌, ◌<◌, ◌==◌, Bool, true, false, cond, not, List, [], ◌∷◌, ◌++◌}
use Rattle.std.proofs.Common.{length, map, take, get_or, refl, sym, ap, ◌∙◌, subst, arith}
use Rattle.std.specs.Prelude.{All, ◌||◌}
use Rattle.std.specs.List.{list_any, position_or_len}
use Rattle.std.proofs.lemmas.Bool.Decides.{nat_tests}
use Rattle.std.proofs.lemmas.List.{get_or_append_left, get_or_push, length-append, map-append, take_more}
use Rattle.std.proofs.lemmas.List.Elements.{All-push}
use Rattle.span_tables.specs.Tables.{has_months}
use Rattle.span_tables.specs.declared.leg_index.LegIndex.{LegIndex}
use Rattle.span_tables.specs.declared.legs.MonthLeg.{MonthLeg}
use Rattle.span_tables.specs.declared.records.Tier.{Tier}
use Rattle.spread_stage.specs.near.TierPlans.{AreIndexed, IsIndexed, IsKnown, no_tier, tier_at}
use Rattle.spread_stage.specs.declared.tier_plans.TierLeg.{TierLeg}
use Rattle.spread_stage.specs.declared.tier_plans.TierSpread.{TierSpread}

module _ {X : Type 0} (p : X → Bool) where
  found_if : (b : Bool) (x : X) (xs : List X) (d : X) (n : ℕ) → p x ≡ b
      → (list_any p xs ≡ true → (n < length xs) × (p (get_or xs n d) ≡ true)) → (b || list_any p xs) ≡ true
      → (cond (not b) (1 + n) 0 < length (x ∷ xs)) × (p (get_or (x ∷ xs) (cond (not b) (1 + n) 0) d) ≡ true)
  found_if true x xs d n is more some = (omega arith, is)
  found_if false x xs d n is more some =
      let h = more some in
      let one : 1 + n ≡ suc n = omega arith in
      (omega (arith, h.0), subst (λ k. p (get_or (x ∷ xs) k d) ≡ true) (sym one) h.1)

  -- if an element passes, the first that passes is in the list
  pub found : (xs : List X) (d : X) → list_any p xs ≡ true
      → (position_or_len p xs < length xs) × (p (get_or xs (position_or_len p xs) d) ≡ true)
  found [] d some = cc
  found (x ∷ xs) d some = found_if (p x) x xs d (position_or_len p xs) refl (found xs d) some

-- a leg with the number of the tier that has its months
pub leg_known : (tiers : List Tier) (leg : MonthLeg) (number : ℕ) → list_any (has_months leg) tiers ≡ true
    → number ≡ position_or_len (has_months leg) tiers → IsKnown tiers (record { months = leg; tier = number })
leg_known tiers leg number some is =
    let first = found (has_months leg) tiers no_tier some in
    let at : has_months leg (tier_at tiers number) ≡ true =
    subst (λ n. has_months leg (tier_at tiers n) ≡ true) (sym is) first.1 in
    record {
      within = subst (λ n. n < length tiers) (sym is) first.0;
      first = grind (arith, nat_tests, at);
      last = grind (arith, nat_tests, at);
    }

-- one more leg, with the number of its tier
pub legs_more : (tiers : List Tier) (legs : List MonthLeg) (made now : List TierLeg) (i : ℕ) (new : TierLeg) → i < length legs
    → new.months ≡ get_or legs i new.months → IsKnown tiers new → map (λ leg. leg.months) made ≡ take i legs
    → All (IsKnown tiers) made → now ≡ made ++ new ∷ []
    → (map (λ leg. leg.months) now ≡ take (i + 1) legs) × All (IsKnown tiers) now
legs_more tiers legs made now i new lt at known so_far all step =
    let same : map (λ (leg : TierLeg). leg.months) (made ++ new ∷ []) ≡ take (i + 1) legs =
    map-append (λ (leg : TierLeg). leg.months) made (new ∷ []) ∙ ap (λ (xs : List MonthLeg). xs ++ new.months ∷ []) so_far
    ∙ ap (λ (x : MonthLeg). take i legs ++ x ∷ []) at ∙ sym (take_more legs i new.months lt) in (
      ap (map (λ (leg : TierLeg). leg.months)) step ∙ same,
      subst (All (IsKnown tiers)) (sym step) (All-push (IsKnown tiers) made new all known),
    )

module _ (index next : LegIndex) (spreads : List TierSpread) (new : TierSpread)
    (kept : (k : ℕ) (legs : List TierLeg) → IsIndexed index k legs → IsIndexed next k legs)
    (added : IsIndexed next (length spreads) new.legs.items) where
  indexed_at : (k : ℕ) (d : TierSpread) (b : Bool) → (k == length spreads) ≡ b → AreIndexed index spreads → k < length spreads + 1
      → IsIndexed next k (get_or (spreads ++ new ∷ []) k d).legs.items
  indexed_at k d true e are lt =
      let same : k ≡ length spreads = grind (arith, nat_tests, e) in
      let here : get_or (spreads ++ new ∷ []) k d ≡ new =
      ap (λ n. get_or (spreads ++ new ∷ []) n d) same ∙ get_or_push spreads new d (length spreads) refl in
      subst (λ (x : TierSpread). IsIndexed next k x.legs.items) (sym here)
      (subst (λ n. IsIndexed next n new.legs.items) (sym same) added)
  indexed_at k d false e are lt =
      let below : k < length spreads = grind (arith, nat_tests, e, lt) in
      subst (λ (x : TierSpread). IsIndexed next k x.legs.items) (sym (get_or_append_left spreads (new ∷ []) d k below))
      (kept k (get_or spreads k d).legs.items (are k d below))

  -- one more spread is in the index
  pub indexed_more : (now : List TierSpread) → AreIndexed index spreads → now ≡ spreads ++ new ∷ [] → AreIndexed next now
  indexed_more now are step k d lt =
      let long = length-append spreads (new ∷ []) in
      let bound : k < length spreads + 1 = (let n = ap length step in omega (arith, lt, n, long)) in
      subst (λ (xs : List TierSpread). IsIndexed next k (get_or xs k d).legs.items) (sym step)
      (indexed_at k d (k == length spreads) refl are bound)
