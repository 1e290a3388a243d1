use Rattle.std.proofs.Common.{◌≡◌, true, false, bytes_eq, codes, rules}
use Rattle.std.proofs.lemmas.List.{map-append}
use Rattle.span_cli.proofs.JoinLemmas.{any_word, dashes_word}
use Rattle.span_cli.proofs.joining.push_any.Goals as goal

pub returns-then-eq-2 : goal.returns-then-eq-2
returns-then-eq-2 c = λ words.
    let no_account : bytes_eq c.args.word.now (codes "--account") ≡ false = search rules in
    let dashes : bytes_eq c.args.word.now (codes "--") ≡ true = search rules in
    rw (c.in_ok-push.ensures.items, map-append, c.in_ok-from_str.ensures.ok) (dashes_word _ words c.args.word.now no_account dashes)

pub returns : goal.returns
returns c = λ words.
    let no_account : bytes_eq c.args.word.now (codes "--account") ≡ false = search rules in
    let no_dashes : bytes_eq c.args.word.now (codes "--") ≡ false = search rules in
    rw (c.in_ok-push.ensures.items, map-append, c.in_ok-from_str.ensures.ok) (any_word _ words c.args.word.now no_account no_dashes)
