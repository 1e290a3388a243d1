use Rattle.whatif.proofs.ChangeLaws.{changes_add_up}
use Rattle.whatif.proofs.laws.changes_add_up.Goals as goal

pub returns : goal.returns
returns c = changes_add_up
