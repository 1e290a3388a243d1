use Rattle.std.proofs.Common.{◌≤◌, ◌*◌, ◌∙◌, ap, length, map, arith}
use Rattle.binding.specs.near.Nets.{holdings_from}
use Rattle.binding.specs.near.Sums.{kept_holding}
use Rattle.binding.proofs.MarkLaws.{all_below}
use Rattle.binding.proofs.contract_sums.Sums.holdings.Goals as goal

pub returns : goal.returns
returns c =
    let marks = c.self.inside.marks.items in
    let places = c.self.inside.places.items in
    let all : length places ≤ 64 * c.loop-word.word =
    omega (arith, c.self.invariant.room, c.loop-word-test.false, c.len-word-end.ensures, c.self.inside.marks.ok.0) in
    c.loop-word.invariant ∙ all_below marks places (64 * c.loop-word.word) all
    ∙ ap (λ ss. map kept_holding (holdings_from ss (length ss))) c.self.view_is
