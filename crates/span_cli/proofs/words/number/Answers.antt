use Rattle.std.proofs.Common.{◌∙◌}
use Rattle.span_cli.proofs.NumberLemmas.{number_read}
use Rattle.span_cli.proofs.words.number.Goals as goal

pub returns : goal.returns
returns c = c.ok.ensures.value ∙ number_read c.args.text.now c.parse.result c.parse.ensures.value.0
