use Rattle.std.proofs.Common.{◌∙◌, sym}
use Rattle.statement.proofs.AllFaultLemmas.{reading_stands}
use Rattle.statement.proofs.laws.positions_are_read_beside_every_parameter_file.Goals as goal

pub returns-clause-file : goal.returns-clause-file
returns-clause-file c = reading_stands

pub returns-clause-every : goal.returns-clause-every
returns-clause-every c = λ params others positions. reading_stands params positions ∙ sym (reading_stands others positions)
