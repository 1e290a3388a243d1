use Rattle.std.proofs.Common.{rules, ◌∙◌, Ok, ap, map, sym}
use Rattle.std.proofs.lemmas.List.Folds.{flat_map-map}
use mathlib.Core.List.{map-map}
use Rattle.span_csv.specs.Records.{records_of}
use Rattle.span_csv.specs.near.Pieces.{piece_of, AreTogether}
use Rattle.span_csv.proofs.PieceLaws.{together_are}
use Rattle.span_csv.proofs.TogetherLaws.{together_known}
use Rattle.acceptance.proofs.reading.put_together.Goals as goal

pub number_pieces-requires : goal.number_pieces-requires
number_pieces-requires g c =
    let together : AreTogether c.in-Some-2.accounts c.in-Some.read.items = search rules in
    (search rules, together_known c.in-Some.read.items c.in-Some-2.accounts together)

pub returns : goal.returns
returns g c = λ bytes same.
    let together : AreTogether c.in-Some-2.accounts c.in-Some.read.items = search rules in
    let pieces = c.args.pieces.now in
    let read = rw c.in-Some.is at c.in_ok-read.ensures in
    together_are bytes (map (λ piece. piece.now) pieces) c.in-Some.read.items c.in-Some-2.accounts
    (map-map piece_of (λ piece. piece.now) pieces ∙ sym read)
    (flat_map-map records_of (λ piece. piece.now) pieces ∙ same) together
    ∙ ap Ok (sym (c.positions.ensures ∙ c.in_ok-records.ensures.named))
