use Rattle.std.proofs.Common.{[], inl, map, refl}
use Rattle.span_cli.specs.Serving.{asked_by}
use Rattle.span_cli.specs.Words.{asked_in, kinds_of}
use Rattle.span_cli.proofs.WordsLaws.{taken_asks, unrefused_asks, unrefused_taken}
use Rattle.span_cli.proofs.ReadLemmas.{nothing_read}
use Rattle.span_cli.proofs.ServingLemmas.{input_for, memory_serves, memory_told, words_refused}
use Rattle.span_cli.proofs.words.answer_words.Goals as goal

pub returns-in-Err-clause-answer : goal.returns-in-Err-clause-answer
returns-in-Err-clause-answer g c =
    let words = map g.T.AsStr.text c.args.words.now in (
      [],
      record {
        taken = λ taken. memory_serves _ (asked_in words) _ _ _ _ _ refl (taken_asks words taken)
            (memory_told c.in-Err.error _ _ _ _ _ (c.in-Err.ensures.err taken) c.refuse.ensures);
        by_kinds = words_refused (kinds_of words) _ c.in-Err.error _ _ _ _ _ c.in-Err.ensures.kinds c.refuse.ensures (λ none told.
            memory_serves _ (asked_in words) _ _ _ _ _ refl (unrefused_asks words none) told);
        read = nothing_read g.S.Sources.reads _ words _ (λ taken.
            memory_told c.in-Err.error _ _ _ _ _ (c.in-Err.ensures.err taken) c.refuse.ensures);
      },
    )

pub returns-in-Ok-clause-answer : goal.returns-in-Ok-clause-answer
returns-in-Ok-clause-answer g c =
    let words = map g.T.AsStr.text c.args.words.now in
    let served = c.serve.ensures.answer in (
      served.0,
      record {
        taken = λ taken. rw (c.in-Ok.ensures.ok) served.1;
        by_kinds = rw (c.in-Ok.ensures.kinds, c.in-Ok.ensures.ok) served.1;
        read = inl (rw (unrefused_taken words c.in-Ok.ensures.kinds, c.in-Ok.ensures.ok) served.2);
      },
    )

pub returns-in-Err-clause-input : goal.returns-in-Err-clause-input
returns-in-Err-clause-input g c = inl refl

pub returns-in-Ok-clause-input : goal.returns-in-Ok-clause-input
returns-in-Ok-clause-input g c =
    let words = map g.T.AsStr.text c.args.words.now in
    input_for (g.S.Sources.file c.args.sources.now) words (asked_by c.in-Ok.request) c.serve.result
    (unrefused_taken words c.in-Ok.ensures.kinds) c.in-Ok.ensures.ok c.serve.ensures.input
