use Rattle.std.proofs.Common.{◌≡◌, ◌<◌, ◌≤◌, ◌+◌, ◌*◌, arith, rules, length, None}
use Rattle.span_csv.specs.near.Grammar.{is_right}
use Rattle.span_csv.specs.Records.{all_have, intra_leg, intra_leg_forms}
use Rattle.span_csv.proofs.LegLemmas.{leg_failed, leg_read, legs_ended}
use Rattle.span_csv.proofs.contents.intra_legs.Goals as goal

pub returns-in_err-intra_leg : goal.returns-in_err-intra_leg
returns-in_err-intra_leg c =
    let inside : 4 + 3 * c.loop-i.i + 2 < length c.args.row.now = omega (arith, c.requires.3) in
    let e : c.from_residual.result ≡ None = search rules in
    rw e (leg_failed intra_leg (all_have is_right intra_leg_forms) 4 c.args.row.now c.loop-i.i _ c.loop-i.invariant inside
    c.in_err-intra_leg.ensures)

pub loop-i-preserved : goal.loop-i-preserved
loop-i-preserved c =
    let inside : 4 + 3 * c.loop-i.i + 2 < length c.args.row.now = omega (arith, c.requires.3) in
    let read = c.in_ok-intra_leg.ensures in
    rw c.push.ensures.items (leg_read intra_leg (all_have is_right intra_leg_forms) 4 c.args.row.now c.loop-i.i _ c.loop-i.invariant
    _ inside read.0 read.1)

pub returns : goal.returns
returns c =
    let past : length c.args.row.now ≤ 4 + 3 * c.loop-i.i = omega (arith, c.requires.3) in
    legs_ended intra_leg (all_have is_right intra_leg_forms) 4 c.args.row.now c.loop-i.i _ c.loop-i.invariant past
