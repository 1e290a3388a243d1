use Rattle.std.proofs.Common.{◌≡◌, ◌∙◌, ap, length}
use Rattle.std.specs.Prelude.{nat_lt}
use Rattle.std.specs.List.{list_all}
use Rattle.binding.proofs.SliceLaws.{all_known_by_places}
use Rattle.binding.proofs.binder.Binder.knows_all.Goals as goal

pub returns : goal.returns
returns c = λ positions are.
    let many : c.len.result ≡ length c.args.self.now = c.len.ensures.len ∙ ap length c.self.view_is in
    c.all_below.ensures ∙ ap (λ n. list_all (λ place. nat_lt place n) c.args.found.now) many
    ∙ all_known_by_places c.args.self.now c.args.found.now positions are
