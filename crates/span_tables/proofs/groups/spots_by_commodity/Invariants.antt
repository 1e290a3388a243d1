use Rattle.std.proofs.Common.{◌≡◌, map, filter, take}
use Rattle.std.specs.Prelude.{bytes_eq}
use Rattle.span_tables.proofs.groups.spots_by_commodity.Given as goal

abbrev pub invariant-loop-spot : goal.invariant-loop-spot
invariant-loop-spot l =
    map (λ v. v.items) l.lists.items ≡ map (λ c. filter (λ x. bytes_eq x.commodity c.id) (take l.spot-index l.spots)) l.commodities
