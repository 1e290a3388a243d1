use Rattle.std.proofs.Common.{rules}
use Rattle.plan_ir.proofs.PackingLemmas.{lists_push}
use Rattle.plan_ir.proofs.lists.NumberLists.push.Goals as goal

pub returns-clause-ok : goal.returns-clause-ok
returns-clause-ok c =
    rw (← c.self.view_is, c.push_reserved.ensures.items, c.in_ok-extend_from_slice.ensures.items, c.reserve.ensures.items)
    (lists_push c.self.inside.numbers.items c.args.list.now c.self.inside.spans.items _ c.self.invariant
    (search rules) (search rules))
