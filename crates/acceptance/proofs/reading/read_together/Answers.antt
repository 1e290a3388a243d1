use Rattle.std.proofs.Common.{◌∙◌, ap}
use Rattle.std.specs.Prelude.{flat_map}
use Rattle.span_csv.specs.Records.{records_of}
use Rattle.acceptance.proofs.reading.read_together.Goals as goal

pub returns-in-Some : goal.returns-in-Some
returns-in-Some g c =
    (rw c.in-Some.is at c.in_ok-positions.ensures) c.args.bytes.now
    (ap (flat_map (λ piece. records_of piece.now)) c.deref.ensures.value ∙ c.in_ok-pieces.ensures.records)
