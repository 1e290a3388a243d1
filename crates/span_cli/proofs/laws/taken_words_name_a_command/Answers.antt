use Rattle.span_cli.proofs.WordsLaws.{taken_names}
use Rattle.span_cli.proofs.laws.taken_words_name_a_command.Goals as goal

pub returns : goal.returns
returns c = taken_names
