use Rattle.span_tables.specs.Rules.{as_commodity, as_contract, as_inter, as_intra, as_spot, as_tier}
use Rattle.span_tables.proofs.KindLemmas.{one_more}
use Rattle.span_tables.proofs.kinds.by_kind.Goals as goal

pub loop-record-preserved : goal.loop-record-preserved
loop-record-preserved c =
    let kept = c.loop-record.invariant in
    let added = c.in_ok-add.ensures in
    record {
      commodities_are = one_more as_commodity c.loop-record.yielded c.in-Some.record _ _ kept.commodities_are added.commodities;
      contracts_are = one_more as_contract c.loop-record.yielded c.in-Some.record _ _ kept.contracts_are added.contracts;
      tiers_are = one_more as_tier c.loop-record.yielded c.in-Some.record _ _ kept.tiers_are added.tiers;
      intras_are = one_more as_intra c.loop-record.yielded c.in-Some.record _ _ kept.intras_are added.intras;
      spots_are = one_more as_spot c.loop-record.yielded c.in-Some.record _ _ kept.spots_are added.spots;
      inters_are = one_more as_inter c.loop-record.yielded c.in-Some.record _ _ kept.inters_are added.inters;
    }
