use Rattle.std.proofs.Common.{◌≡◌, ◌∙◌, List, subst}
use Rattle.std.specs.Prelude.{IfOk}
use Rattle.binding.specs.declared.faults.BindFault.{BindFault}
use Rattle.binding.proofs.BindLaws.{faults_are}
use Rattle.binding.proofs.positions.faults_of.Goals as goal

pub returns : goal.returns
returns c = λ contracts is.
    subst (λ (xs : List BindFault). IfOk c.all_faults.result (λ faults. faults.items ≡ xs))
    (faults_are contracts c.args.positions.now c.args.numbers.now.keys c.args.unknown.items c.args.nets.now is c.requires
    c.deref.result.now (c.deref.ensures.value ∙ c.in_ok-excesses.ensures))
    c.all_faults.ensures
