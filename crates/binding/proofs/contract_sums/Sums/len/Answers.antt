use Rattle.std.proofs.Common.{◌∙◌, ap, sym, length}
use Rattle.binding.proofs.MarkLaws.{sums_long}
use Rattle.binding.proofs.contract_sums.Sums.len.Goals as goal

pub returns : goal.returns
returns c =
    c.len.ensures ∙ c.self.inside.places.ok.0 ∙ sym (sums_long c.self.inside.marks.items c.self.inside.places.items)
    ∙ ap length c.self.view_is
