use Rattle.std.proofs.Common.{◌≡◌, ◌∙◌, Err, ap, arith, length, rules, take}
use Rattle.std.proofs.lemmas.List.{with_items_is, places}
use Rattle.span_cli.proofs.FileReadLemmas.{reads_end, reads_fail, reads_more}
use Rattle.span_cli.proofs.PieceLemmas.{more_read}
use Rattle.span_cli.proofs.reading.read_pieces.Goals as goal

pub loop-filled-preserved : goal.loop-filled-preserved
loop-filled-preserved g c =
    let filled = c.loop-filled.filled in
    let long : length c.read_after.new.bytes ≡ c.make_room.new.bytes.len = search (rules, places) in
    let front = c.read_after.ensures.front ∙ ap (take filled) c.as_mut_slice.ensures.value ∙ c.make_room.ensures.front in
    record {
      taken = rw (with_items_is c.make_room.new.bytes c.read_after.new.bytes long)
          (more_read c.args.reader.now.bytes c.loop-filled.reader.bytes c.read_after.new.reader.bytes c.loop-filled.bytes.items
          c.read_after.new.bytes filled c.in_ok-count.count front c.loop-filled.invariant.taken c.in_ok-count.ensures.bytes);
      filled = omega (arith, c.in_ok-count.ensures.bound, long);
      on = reads_more g.R.Input.reads _ _ _ filled c.loop-filled.invariant.on c.in_ok-count.count (omega arith) c.in_ok-count.ensures.made;
      same = search rules;
    }

pub returns-in_err-count-clause-made : goal.returns-in_err-count-clause-made
returns-in_err-count-clause-made g c =
    let is : c.from_residual.result ≡ Err c.in_err-count.field-0.0 = search rules in
    reads_fail g.R.Input.reads _ _ _ c.loop-filled.filled c.loop-filled.invariant.on c.from_residual.result c.in_err-count.field-0.0
    c.args.cap is c.loop-filled-test.true c.loop-filled.invariant.same c.in_err-count.ensures.made

pub returns-then-count-eq0-clause-made : goal.returns-then-count-eq0-clause-made
returns-then-count-eq0-clause-made g c =
    reads_end g.R.Input.reads _ _ _ c.loop-filled.filled c.loop-filled.invariant.on c.in_ok-count.count c.if-count-eq0.true
    c.in_ok-count.ensures.made
