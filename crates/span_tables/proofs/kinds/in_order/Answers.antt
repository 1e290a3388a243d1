use Rattle.std.proofs.Common.{rules}
use Rattle.span_tables.proofs.StableSort.{sorted_by_closure}
use Rattle.span_tables.proofs.TablesMade.{same_tables}
use Rattle.span_tables.proofs.kinds.in_order.Goals as goal

pub returns : goal.returns
returns c set first =
    same_tables c.args.records.items set _ _ _ _ _ _ _ _ first c.in_ok-kinds.ensures
    (sorted_by_closure (λ s. s.priority) _ _ c.in_ok-sort_by_key.ensures.sorted c.in_ok-sort_by_key.ensures.stable
    (λ a r q k. search rules))
    (sorted_by_closure (λ s. s.priority) _ _ c.in_ok-sort_by_key-2.ensures.sorted c.in_ok-sort_by_key-2.ensures.stable
    (λ a r q k. search rules))
