-- Tiers by their commodity, and the rule that they do not share a month.
use Rattle.std.proofs.Common.{◌≡◌, ℕ, ◌++◌, ◌∷◌, [], List, false, true, Bool, cond, bytes_eq, Option, None, Some, refl, sym, ap, ◌∙◌, ◌&&◌}
use Rattle.std.specs.Prelude.{if◌then◌else◌, filter_map}
use Rattle.std.specs.List.{list_any}
use Rattle.std.specs.Option.{option_map_or}
use Rattle.std.proofs.lemmas.List.{append-nil}
use Rattle.span_tables.specs.Rules.{is_and, as_tier, share_month, overlaps_tier}
use Rattle.span_tables.specs.declared.records.Record.{Record}
use Rattle.span_tables.specs.declared.records.Record.TheVariants as record_of
use Rattle.span_tables.proofs.NameLemmas.{same_name}
use Rattle.param_check.specs.near.Overlaps.{meet, meets_earlier, tier_months, months_under}
use Rattle.param_check.specs.declared.check.overlaps.Months.{Months}
use Rattle.binding.proofs.FilterMaps.{list_any-filter_map, list_any-same}

-- a new group is started for a key that had none
pub begun : {V M : Type 0} (items : V → List M) (found : List ℕ → Option V) (k q : List ℕ) (group : V) (m : M)
    → items group ≡ m ∷ [] → found k ≡ None → (b : Bool) → bytes_eq k q ≡ b
    → option_map_or items (cond b (Some group) (found q)) [] ≡ option_map_or items (found q) [] ++ (if b then m ∷ [] else [])
begun items found k q group m one none true e = rw (← same_name k q e) (rw none one)
begun items found k q group m one none false e = sym (append-nil _)

under : (b : Bool) (m : Months) (test : Months → Bool) → is_and (if b then Some m else None) test ≡ (b && test m)
under true m test = refl
under false m test = refl

alike : (commodity : List ℕ) (m : Months) (r : Record) → is_and (months_under commodity r) (meet m)
    ≡ is_and (as_tier r) (λ u. bytes_eq u.commodity commodity && meet m (tier_months u))
alike commodity m (record_of.Tier x) = under (bytes_eq x.commodity commodity) (tier_months x) (meet m)
alike commodity m _ = refl

-- the earlier tiers, grouped by their commodity, determine whether a tier overlaps one of them
pub overlaps_by : (groups : List ℕ → List Months) (earlier : List Record) → ((c : List ℕ) → groups c ≡ filter_map (months_under c) earlier)
    → (r : Record) → meets_earlier groups r ≡ overlaps_tier earlier r
overlaps_by groups earlier are (record_of.Tier x) =
    ap (list_any (meet (tier_months x))) (are x.commodity)
    ∙ list_any-filter_map (months_under x.commodity) (meet (tier_months x)) earlier
    ∙ list_any-same _ _ (alike x.commodity (tier_months x)) earlier
    ∙ sym (list_any-filter_map as_tier (λ u. bytes_eq u.commodity x.commodity && share_month x u) earlier)
overlaps_by groups earlier are _ = refl
