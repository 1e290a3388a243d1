use Rattle.std.proofs.Common.{◌≡◌, ◌+◌, ◌≤◌, length, take, ap, ◌∙◌, arith, rules, length-take}
use Rattle.std.proofs.lemmas.List.{places, take-append-le}
use lib.Seq.{take-take}
use Rattle.span_cli.proofs.reading.make_room.Goals as goal

pub returns-in_ok-resize-clause-front : goal.returns-in_ok-resize-clause-front
returns-in_ok-resize-clause-front c =
    let filled = c.args.filled in
    let grown = c.if-filled-capacity.bytes.items in
    let end = filled + c.min.result in
    let same : grown ≡ c.args.bytes.now.items = search rules in
    let within : filled ≤ length c.args.bytes.now.items = search (rules, places) in
    ap (take filled) c.in_ok-resize.ensures.items
    ∙ take-append-le filled (take end grown) _ (omega (arith, length-take end grown, ap length same))
    ∙ take-take filled end grown (omega arith) ∙ ap (take filled) same
