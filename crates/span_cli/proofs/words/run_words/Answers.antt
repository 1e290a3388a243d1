use Rattle.std.proofs.Common.{◌≡◌, [], inl, map, refl, rules}
use Rattle.clap.specs.Words.{kind_of}
use Rattle.clap.specs.declared.error.kind.ErrorKind.TheVariants.{OutOfMemory}
use Rattle.span_cli.specs.Words.{asked_in, joined_words, kinds_of}
use Rattle.span_cli.proofs.WordsLaws.{taken_asks, unrefused_asks}
use Rattle.span_cli.proofs.ReadLemmas.{nothing_read}
use Rattle.span_cli.proofs.ServingLemmas.{memory_serves, memory_told, words_refused}
use Rattle.span_cli.proofs.words.run_words.Goals as goal

pub returns-in-Ok-clause-answer : goal.returns-in-Ok-clause-answer
returns-in-Ok-clause-answer g c = rw (← c.in-Ok.ensures, ← c.deref.ensures.value) c.answer_words.ensures.answer

pub returns-in-Err-clause-answer : goal.returns-in-Err-clause-answer
returns-in-Err-clause-answer g c =
    let words = joined_words (map g.T.AsStr.text c.args.words.now) in
    let wanted : kind_of c.from.result ≡ OutOfMemory = search rules in (
      [],
      record {
        taken = λ taken. memory_serves _ (asked_in words) _ _ _ _ _ refl (taken_asks words taken)
            (memory_told c.from.result _ _ _ _ _ wanted c.refuse.ensures);
        by_kinds = words_refused (kinds_of words) _ c.from.result _ _ _ _ _ (inl wanted) c.refuse.ensures (λ none told.
            memory_serves _ (asked_in words) _ _ _ _ _ refl (unrefused_asks words none) told);
        read = nothing_read g.S.Sources.reads _ words _ (λ taken. memory_told c.from.result _ _ _ _ _ wanted c.refuse.ensures);
      },
    )

pub returns-in-Ok-clause-input : goal.returns-in-Ok-clause-input
returns-in-Ok-clause-input g c = rw (← c.in-Ok.ensures, ← c.deref.ensures.value) c.answer_words.ensures.input

pub returns-in-Err-clause-input : goal.returns-in-Err-clause-input
returns-in-Err-clause-input g c = inl refl
