use Rattle.std.proofs.Common.{◌++◌, ◌∙◌, ap, option_to_list, Result, Ok, Err, IfOk, OnOk}
use Rattle.param_check.specs.near.Overlaps.{months_under}
use Rattle.binding.proofs.FilterMaps.{filter_map_more}
use Rattle.param_check.proofs.KeyLemmas.{has_key_more, names_unknown_by, names_unknown_tier_by, repeats_by}
use Rattle.param_check.proofs.OverlapLemmas.{overlaps_by}
use Rattle.param_check.proofs.check.breaks.Goals as goal

both : {T E : Type 0} {P R : T → Type 0} {Q : Type 0} (r : Result T E) → IfOk r P → OnOk r Q → ((x : T) → P x → Q → R x) → IfOk r R
both (Ok x) p q f = f x p q
both (Err e) p q f = tt

pub returns-in-Repeats : goal.returns-in-Repeats
returns-in-Repeats c =
    let item = c.args.item.now in
    both c.repeats_or_joins.result c.repeats_or_joins.ensures.repeats c.repeats_or_joins.ensures.members (λ b is members all earlier.
    rw c.in-Repeats.is (λ were. (is ∙ repeats_by _ _ earlier were item, λ k. members k ∙ has_key_more _ _ earlier were item k)))

pub returns-in-UnknownCommodity : goal.returns-in-UnknownCommodity
returns-in-UnknownCommodity c = λ all earlier. rw c.in-UnknownCommodity.is (λ were.
    (c.names_unknown.ensures ∙ names_unknown_by _ all were _, were))

pub returns-in-TierOverlap : goal.returns-in-TierOverlap
returns-in-TierOverlap c =
    let item = c.args.item.now in
    both c.overlaps_or_joins.result c.overlaps_or_joins.ensures.meets c.overlaps_or_joins.ensures.joins (λ b is joins all earlier.
    rw c.in-TierOverlap.is (λ were. (
      is ∙ overlaps_by _ earlier were item,
      λ q. joins q ∙ ap (λ months. months ++ option_to_list (months_under q item)) (were q) ∙ filter_map_more (months_under q) earlier item,
    )))

pub returns-in-UnknownTier : goal.returns-in-UnknownTier
returns-in-UnknownTier c = λ all earlier. rw c.in-UnknownTier.is (λ were.
    (c.names_unknown_tier.ensures ∙ names_unknown_tier_by _ all were _, were))
