use Rattle.std.proofs.Common.{◌∙◌, sym}
use Rattle.binding.specs.near.Holdings.{is_over_at}
use Rattle.binding.specs.near.Ledgers.{contract_place}
use Rattle.binding.proofs.LimitLaws.{none_over_in}
use Rattle.binding.proofs.UnfitLaws.{position_nowhere}
use Rattle.binding.proofs.trades.first_over.Goals as goal

pub returns-then-not-has_over : goal.returns-then-not-has_over
returns-then-not-has_over c =
    let none = sym c.has_over.ensures ∙ c.if-not-has_over.true in
    sym (position_nowhere (λ trade. is_over_at (contract_place c.args.numbers.now.keys trade.contract) c.args.nets.now)
    (λ trade. none_over_in (contract_place c.args.numbers.now.keys trade.contract) c.args.nets.now none) c.args.trades.now)
