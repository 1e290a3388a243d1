use Rattle.span_tables.proofs.GroupLemmas.{pushed_list}
use Rattle.span_tables.proofs.groups.push_at.Goals as goal

pub returns-clause-items : goal.returns-clause-items
returns-clause-items g c = pushed_list _ _ _ _ _ _ c.requires c.index_mut.ensures.value c.in_ok-push.ensures.items
