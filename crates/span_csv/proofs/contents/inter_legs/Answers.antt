use Rattle.std.proofs.Common.{◌≡◌, ◌<◌, ◌≤◌, ◌+◌, ◌*◌, arith, rules, length, None}
use Rattle.span_csv.specs.near.Grammar.{is_right}
use Rattle.span_csv.specs.Records.{all_have, inter_leg, inter_leg_forms}
use Rattle.span_csv.proofs.LegLemmas.{leg_failed, leg_read, legs_ended}
use Rattle.span_csv.proofs.contents.inter_legs.Goals as goal

pub returns-in_err-inter_leg : goal.returns-in_err-inter_leg
returns-in_err-inter_leg c =
    let inside : 3 + 3 * c.loop-i.i + 2 < length c.args.row.now = omega (arith, c.requires.3) in
    let e : c.from_residual.result ≡ None = search rules in
    rw e (leg_failed inter_leg (all_have is_right inter_leg_forms) 3 c.args.row.now c.loop-i.i _ c.loop-i.invariant inside
    c.in_err-inter_leg.ensures)

pub loop-i-preserved : goal.loop-i-preserved
loop-i-preserved c =
    let inside : 3 + 3 * c.loop-i.i + 2 < length c.args.row.now = omega (arith, c.requires.3) in
    let read = c.in_ok-inter_leg.ensures in
    rw c.push.ensures.items (leg_read inter_leg (all_have is_right inter_leg_forms) 3 c.args.row.now c.loop-i.i _ c.loop-i.invariant
    _ inside read.0 read.1)

pub returns : goal.returns
returns c =
    let past : length c.args.row.now ≤ 3 + 3 * c.loop-i.i = omega (arith, c.requires.3) in
    legs_ended inter_leg (all_have is_right inter_leg_forms) 3 c.args.row.now c.loop-i.i _ c.loop-i.invariant past
