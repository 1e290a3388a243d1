use Rattle.span_cli.proofs.WordsLaws.{unrefused_taken}
use Rattle.span_cli.proofs.laws.words_that_nothing_refuses_are_taken.Goals as goal

pub returns : goal.returns
returns c = unrefused_taken
