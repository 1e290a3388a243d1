use Rattle.span_tables.proofs.WithinLimits.{accepted_intras, accepted_limits, accepted_spots, accepted_tiers}
use Rattle.span_tables.proofs.GroupLemmas.{lengths}
use Rattle.span_tables.proofs.TablesMade.{are_tables}
use Rattle.span_tables.proofs.tables.Tables.with_numbers.Goals as goal

pub of-requires-clause-few : goal.of-requires-clause-few
of-requires-clause-few c = rw c.as_slice-commodities.ensures.value (accepted_limits _ c.requires).commodities

pub of-requires-clause-apart : goal.of-requires-clause-apart
of-requires-clause-apart c = rw c.as_slice-commodities.ensures.value (accepted_limits _ c.requires).commodities_apart

pub of-requires-clause-known : goal.of-requires-clause-known
of-requires-clause-known c = rw c.as_slice-commodities.ensures.value (accepted_limits _ c.requires).contracts_known

pub of-requires-clause-in_range : goal.of-requires-clause-in_range
of-requires-clause-in_range c = (accepted_limits _ c.requires).contracts_in_range

pub tiers_by_commodity-requires-clause-apart : goal.tiers_by_commodity-requires-clause-apart
tiers_by_commodity-requires-clause-apart c = rw c.as_slice-commodities.ensures.value (accepted_limits _ c.requires).commodities_apart

pub tiers_by_commodity-requires-clause-known : goal.tiers_by_commodity-requires-clause-known
tiers_by_commodity-requires-clause-known c =
    rw (c.as_slice-commodities.ensures.value, c.as_slice-tiers.ensures.value) (accepted_tiers _ c.requires)

pub intras_by_commodity-requires-clause-apart : goal.intras_by_commodity-requires-clause-apart
intras_by_commodity-requires-clause-apart c = rw c.as_slice-commodities.ensures.value (accepted_limits _ c.requires).commodities_apart

pub intras_by_commodity-requires-clause-every : goal.intras_by_commodity-requires-clause-every
intras_by_commodity-requires-clause-every c =
    rw c.deref.ensures.value (lengths _ _ _ _ c.in_ok-tier_lists.ensures)

pub intras_by_commodity-requires-clause-known : goal.intras_by_commodity-requires-clause-known
intras_by_commodity-requires-clause-known c =
    rw (c.as_slice-commodities.ensures.value, c.as_slice-spreads.ensures.value) (accepted_intras _ c.requires)

pub spots_by_commodity-requires-clause-apart : goal.spots_by_commodity-requires-clause-apart
spots_by_commodity-requires-clause-apart c = rw c.as_slice-commodities.ensures.value (accepted_limits _ c.requires).commodities_apart

pub spots_by_commodity-requires-clause-known : goal.spots_by_commodity-requires-clause-known
spots_by_commodity-requires-clause-known c =
    rw (c.as_slice-commodities.ensures.value, c.as_slice-spots.ensures.value) (accepted_spots _ c.requires)

pub invariant_of-result : goal.invariant_of-result
invariant_of-result c =
    let tiers = rw (c.as_slice-commodities.ensures.value, c.as_slice-tiers.ensures.value) at c.in_ok-tier_lists.ensures in
    let terms = rw c.as_slice-commodities.ensures.value at c.in_ok-contracts.ensures.terms in
    let intras = rw (c.as_slice-commodities.ensures.value, c.as_slice-spreads.ensures.value, c.deref.ensures.value) at
    c.in_ok-intras.ensures in
    let spots = rw (c.as_slice-commodities.ensures.value, c.as_slice-spots.ensures.value) at c.in_ok-spot_months.ensures in
    let inters = rw (c.as_slice-commodities.ensures.value, c.deref-2.ensures.value) at c.in_ok-inters.ensures in
    rw (c.in_ok-contracts-2.ensures.ok, c.in_ok-contracts.ensures.records)
    (are_tables _ c.requires _ _ _ _ _ terms (intras _ tiers) spots inters tiers)
