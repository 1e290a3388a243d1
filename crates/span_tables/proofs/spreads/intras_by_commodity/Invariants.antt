use Rattle.std.proofs.Common.{◌≡◌, List, length, map, filter, take}
use Rattle.std.specs.Prelude.{bytes_eq}
use Rattle.span_tables.specs.Tables.{intra_spread}
use Rattle.span_tables.specs.declared.records.Tier.{Tier}
use Rattle.span_tables.proofs.spreads.intras_by_commodity.Given as goal

abbrev pub invariant-loop-spread : goal.invariant-loop-spread
invariant-loop-spread l = record {
  every : length l.lists.items ≡ length l.commodities;
  lists_are : (tiers : List Tier)
      → map (λ v. v.items) l.tier_lists ≡ map (λ c. filter (λ t. bytes_eq t.commodity c.id) tiers) l.commodities
      → map (λ v. v.items) l.lists.items ≡ map
      (λ c. map (intra_spread tiers) (filter (λ s. bytes_eq s.commodity c.id) (take l.spread-index l.spreads))) l.commodities;
}
