use Rattle.std.proofs.Common.{◌≡◌, arith, rules, true}
use Rattle.std.specs.Borrow.{Bor}
use Rattle.std.specs.Prelude.{List, ℕ}
use Rattle.std.specs.Result.{is_ok}
use Rattle.std.proofs.lemmas.List.{take-append-drop}
use Rattle.span_csv.specs.Records.{records_of}
use Rattle.span_csv.proofs.CutPlaces.{left_plain, one_more, records_cut}
use Rattle.span_csv.proofs.cuts.cut_plain.Goals as goal

pub loop-pieces-preserved : goal.loop-pieces-preserved
loop-pieces-preserved c =
    let good : is_ok c.push.result ≡ true = search rules in
    let items = rw good at c.push.ensures.items in
    let long = rw good at c.push.ensures.len in
    let kept = c.loop-pieces.invariant in
    let at = c.in-Some.at in
    let left = c.loop-pieces.left.now in
    let piece = c.split_at.result.0 in
    let test = c.loop-pieces-test.true in
    let count = c.len.ensures in
    rw (items, c.split_at.ensures.back) (record {
      records = one_more (λ (p : Bor (List ℕ)). records_of p.now) c.loop-pieces.pieces.items piece _ _ _ kept.records
          (rw c.split_at.ensures.front (records_cut left at kept.plain c.in-Some.ensures.line c.in-Some.ensures.unmarked));
      bytes = one_more (λ (p : Bor (List ℕ)). p.now) c.loop-pieces.pieces.items piece _ _ _ kept.bytes
          (rw c.split_at.ensures.front (take-append-drop at left));
      plain = left_plain left at kept.plain;
      few = omega (arith, long, test, count);
    })
