use Rattle.std.proofs.lemmas.List.{map-append}
use Rattle.span_cli.proofs.JoinLemmas.{value_word}
use Rattle.span_cli.proofs.joining.push_word.Goals as goal

pub returns-in_ok-push-in-Value : goal.returns-in_ok-push-in-Value
returns-in_ok-push-in-Value c = λ words.
    rw (c.in-Value.is, c.in_ok-push-in-Value.ensures.items, map-append)
    (value_word _ words c.args.word.now _ c.in_ok-with_value-in-Value.ensures)
