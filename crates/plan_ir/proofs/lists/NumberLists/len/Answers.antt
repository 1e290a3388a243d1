use Rattle.std.proofs.Common.{◌∙◌, ap, sym, length}
use Rattle.std.proofs.lemmas.List.{length-map}
use Rattle.plan_ir.specs.near.Packing.{list_in}
use Rattle.plan_ir.proofs.lists.NumberLists.len.Goals as goal

pub returns : goal.returns
returns c =
    ap length c.as_slice.ensures.value ∙ sym (length-map c.self.inside.spans.items (list_in c.self.inside.numbers.items))
    ∙ ap length c.self.view_is
