use Rattle.std.proofs.Common.{rules, ◌≡◌, Err}
use Rattle.span_csv.proofs.PositionLemmas.{positions_of-reading}
use Rattle.span_csv.proofs.positions.read_positions.Goals as goal

pub returns-in_err-read_rows : goal.returns-in_err-read_rows
returns-in_err-read_rows c =
    let e : c.from_residual.result ≡ Err c.in_err-read_rows.field-0.0 = search rules in
    rw (e, ← positions_of-reading c.args.bytes.now)
    (rw (c.new-records.ensures.items, c.new-rows.ensures) at c.in_err-read_rows.ensures.read)

pub returns : goal.returns
returns c =
    rw (c.new.ensures, ← positions_of-reading c.args.bytes.now)
    (rw (c.new-records.ensures.items, c.new-rows.ensures) at c.in_ok-read_rows.ensures.read)
