use Rattle.std.proofs.Common.{◌∙◌, ◌<◌, arith, length}
use Rattle.span_tables.specs.declared.records.NumberedPosition.{NumberedPosition}
use Rattle.span_csv.specs.near.Pieces.{renumbered}
use Rattle.span_csv.proofs.TogetherLaws.{changed_more, left_behind}
use Rattle.span_csv.proofs.together.renumber.Goals as goal

pub loop-record-preserved : goal.loop-record-preserved
loop-record-preserved c =
    let rs = c.loop-record.records in
    let i = c.loop-record.record-index in
    let x = c.record-item.result in
    let f = renumbered c.args.places.now in
    let lt : i < length rs = omega arith in
    record {
      all = changed_more f rs i x lt ∙ c.loop-record.invariant.all;
      left = left_behind (λ (p : NumberedPosition). p.account < length c.args.places.now) rs i _ x lt c.loop-record.invariant.left;
    }
