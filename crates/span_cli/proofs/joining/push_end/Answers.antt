use Rattle.std.proofs.lemmas.List.{map-append}
use Rattle.span_cli.proofs.JoinLemmas.{no_value, no_word}
use Rattle.span_cli.proofs.joining.push_end.Goals as goal

pub returns-in_ok-push-in-Value : goal.returns-in_ok-push-in-Value
returns-in_ok-push-in-Value c =
    rw (c.in-Value.is, c.in_ok-push-in-Value.ensures.items, map-append) (no_value _ _ c.in_ok-from_str-in-Value.ensures.ok)

pub returns-in-Any : goal.returns-in-Any
returns-in-Any c = rw (c.in-Any.is) (no_word _)
