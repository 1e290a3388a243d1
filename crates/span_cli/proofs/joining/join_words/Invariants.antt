use Rattle.std.proofs.Common.{◌≡◌, ◌++◌, drop, map, string_bytes}
use Rattle.span_cli.specs.Words.{joined_words}
use Rattle.span_cli.specs.near.NextWords.{rest_of}
use Rattle.span_cli.proofs.joining.join_words.Given as goal

abbrev pub invariant-loop-word : goal.invariant-loop-word
invariant-loop-word g l =
    map string_bytes l.joined.items ++ rest_of l.next (map g.S.AsStr.text (drop l.word-index l.words))
    ≡ joined_words (map g.S.AsStr.text l.words)
