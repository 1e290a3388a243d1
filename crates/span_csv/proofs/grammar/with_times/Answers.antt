use Rattle.std.proofs.Common.{◌++◌, ◌∙◌, ap, take}
use Rattle.std.specs.Prelude.{flat_map}
use Rattle.std.proofs.lemmas.List.{append-nil}
use Rattle.span_csv.proofs.FormLemmas.{flat_take}
use Rattle.span_csv.proofs.grammar.with_times.Goals as goal

pub returns : goal.returns
returns c =
    append-nil (c.args.front.now ++ c.as_flattened.result.now)
    ∙ ap (λ middle. c.args.front.now ++ middle) (c.as_flattened.ensures.value
    ∙ ap (λ legs. flat_map (λ leg. leg) (take c.args.times legs)) c.requires.same ∙ flat_take c.args.times 4 _ c.requires.few)
