use Rattle.std.proofs.Common.{◌∙◌, sym}
use Rattle.binding.proofs.BindLaws.{gathered_of}
use Rattle.binding.proofs.positions.bind_faults.Goals as goal

pub faults_of-requires : goal.faults_of-requires
faults_of-requires c =
    gathered_of c.args.tables.now.contracts c.args.positions.now _ _ _ _ c.in_ok-numbers.ensures.known c.in_ok-numbers.ensures.value
    c.in_ok-gathered.ensures.unknown c.in_ok-gathered.ensures.ledgers (c.deref.ensures.value ∙ c.in_ok-nets.ensures)

pub returns : goal.returns
returns c = c.faults_of.ensures c.args.tables.now.contracts (sym c.in_ok-numbers.ensures.value)
