use Rattle.std.proofs.Common.{◌≡◌, map, filter, take}
use Rattle.std.specs.Prelude.{bytes_eq}
use Rattle.span_tables.proofs.groups.tiers_by_commodity.Given as goal

abbrev pub invariant-loop-tier : goal.invariant-loop-tier
invariant-loop-tier l =
    map (λ v. v.items) l.lists.items ≡ map (λ c. filter (λ x. bytes_eq x.commodity c.id) (take l.tier-index l.tiers)) l.commodities
