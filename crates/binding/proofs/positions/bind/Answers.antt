use Rattle.std.proofs.Common.{sym}
use Rattle.binding.proofs.BindLaws.{gathered_of}
use Rattle.binding.proofs.positions.bind.Goals as goal

pub portfolios_or_fault-requires : goal.portfolios_or_fault-requires
portfolios_or_fault-requires c =
    gathered_of c.args.tables.now.contracts c.args.positions.now _ _ _ _ c.in_ok-numbers.ensures.known c.in_ok-numbers.ensures.value
    c.in_ok-gathered.ensures.unknown c.in_ok-gathered.ensures.ledgers c.in_ok-nets.ensures

pub returns : goal.returns
returns c = c.portfolios_or_fault.ensures c.args.tables.now.contracts (sym c.in_ok-numbers.ensures.value)
