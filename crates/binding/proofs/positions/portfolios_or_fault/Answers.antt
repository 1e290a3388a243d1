use Rattle.std.proofs.Common.{◌∙◌, ap, length, sym, subst}
use Rattle.binding.specs.near.Holdings.{portfolios_from}
use Rattle.binding.specs.near.Ledgers.{AreGathered}
use Rattle.binding.proofs.BindLaws.{all_given, as_many, first_given, nets_hold, none_first_is, portfolios_are}
use Rattle.binding.proofs.positions.portfolios_or_fault.Goals as goal

pub faults_of-requires : goal.faults_of-requires
faults_of-requires c =
    subst (AreGathered c.args.numbers.now.keys c.args.positions.now c.args.unknown.items) (sym c.deref.ensures.value) c.requires

pub returns-in-Some : goal.returns-in-Some
returns-in-Some c = λ contracts is.
    first_given contracts c.args.positions.now c.in_ok-faults.faults.items (c.in_ok-faults.ensures contracts is) c.in-Some.fault
    c.in-Some.ensures

pub portfolios_from-requires-clause-as_many : goal.portfolios_from-requires-clause-as_many
portfolios_from-requires-clause-as_many c =
    as_many c.requires.contracts c.args.positions.now c.args.numbers.now.keys c.args.unknown.items c.args.nets.items c.requires.ids_are
    c.requires
    ∙ ap length (sym c.accounts.ensures.value)

pub portfolios_from-requires-clause-fit : goal.portfolios_from-requires-clause-fit
portfolios_from-requires-clause-fit c =
    nets_hold c.requires.contracts c.args.positions.now c.args.numbers.now.keys c.args.unknown.items c.args.nets.items c.requires.ids_are
    c.requires
    (none_first_is c.requires.contracts c.args.positions.now c.in_ok-faults.faults.items
    (c.in_ok-faults.ensures c.requires.contracts c.requires.ids_are) c.in_default.ensures)

pub returns : goal.returns
returns c = λ contracts is.
    let positions = c.args.positions.now in
    let faults = c.in_ok-faults.ensures contracts is in
    all_given contracts positions c.in_ok-faults.faults.items faults c.in_ok-all.all c.in_default.ensures
    (c.in_ok-all.ensures ∙ ap (λ ks. portfolios_from ks c.args.nets.items) c.accounts.ensures.value
    ∙ portfolios_are contracts positions c.args.numbers.now.keys c.args.unknown.items c.args.nets.items is c.requires
    (none_first_is contracts positions c.in_ok-faults.faults.items faults c.in_default.ensures))
