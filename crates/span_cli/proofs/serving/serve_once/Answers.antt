use Rattle.std.proofs.Common.{map}
use Rattle.span_cli.specs.Serving.{answered}
use Rattle.span_cli.proofs.ServingLemmas.{answer_told, refused_tells}
use Rattle.span_cli.proofs.serving.serve_once.Goals as goal

pub returns-in-Err : goal.returns-in-Err
returns-in-Err g c =
    answer_told (answered c.args.command.now (map (λ file. file.items) c.args.files.now)) c.in-Err.fault c.refuse.result c.args.out.now _ _
    (refused_tells _ _ c.refuse.result c.args.out.now _ _ c.requires.fresh c.refuse.ensures.status c.refuse.ensures.line) c.in-Err.ensures
