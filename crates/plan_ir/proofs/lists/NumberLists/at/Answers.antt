use Rattle.std.proofs.Common.{ap, length, arith}
use Rattle.std.proofs.lemmas.List.{length-map}
use Rattle.plan_ir.specs.near.Packing.{list_in}
use Rattle.plan_ir.proofs.lists.NumberLists.at.Goals as goal

pub list_at-requires-clause-place : goal.list_at-requires-clause-place
list_at-requires-clause-place c =
    let many = length-map c.self.inside.spans.items (list_in c.self.inside.numbers.items) in
    let seen = ap length c.self.view_is in
    omega (arith, c.requires, many, seen, ap length c.deref-2.ensures.value)
