use Rattle.std.proofs.Common.{◌∙◌, ap, sym, length}
use Rattle.std.specs.Prelude.{pos, replicate}
use Rattle.binding.specs.near.Sums.{sums_of}
use Rattle.binding.proofs.MarkLaws.{sums_clear, sums_long}
use Rattle.binding.proofs.contract_sums.Sums.clear.Goals as goal

pub returns : goal.returns
returns c =
    let marks = c.self.inside.marks.items in
    let places = c.self.inside.places.items in
    ap (λ ms. sums_of ms places) (c.fill.ensures.items (λ y e. e))
    ∙ sums_clear _ places
    ∙ ap (λ n. replicate n (pos 0)) (sym (sums_long marks places) ∙ ap length c.self.view_is)
