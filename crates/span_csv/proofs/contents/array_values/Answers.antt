use Rattle.std.proofs.Common.{◌≡◌, ◌<◌, length, arith, rules, None, FitsSigned, w32}
use Rattle.std.proofs.lemmas.Int.{to_z-of_z}
use Rattle.std.proofs.Math.ListN.{length-set}
use Rattle.span_tables.specs.declared.limits.TheConstants.{SCENARIOS}
use Rattle.span_csv.proofs.ValueLemmas.{value_failed, value_right, values_all, values_more}
use Rattle.span_csv.proofs.contents.array_values.Goals as goal

pub returns-in_err-values : goal.returns-in_err-values
returns-in_err-values c =
    let e : c.from_residual.result ≡ None = search rules in
    rw e (value_failed c.args.row.now c.requires c.loop-i.i c.loop-i-test.true c.in_err-values.ensures)

pub loop-i-preserved : goal.loop-i-preserved
loop-i-preserved c =
    let fields = c.args.row.now in
    let read = c.in_ok-values.ensures in
    let value = c.in_ok-values.field-0 in
    let fits : FitsSigned w32 value = search rules in
    let room : c.loop-i.i < length c.loop-i.values = omega (arith, c.loop-i.invariant.sixteen) in
    record {
      sixteen = simp length-set c.loop-i.invariant.sixteen;
      right = value_right fields c.requires c.loop-i.i c.loop-i-test.true read.0 c.loop-i.invariant.right;
      each = rw (to_z-of_z w32 value fits) (values_more c.loop-i.values c.loop-i.i value fields room read.1 c.loop-i.invariant.each);
    }

pub returns : goal.returns
returns c =
    let all : c.loop-i.i ≡ SCENARIOS = omega (arith, c.loop-i.auto.i-end, c.loop-i-test.false) in (
      rw all at c.loop-i.invariant.right,
      values_all c.loop-i.values c.args.row.now c.loop-i.invariant.sixteen c.requires (λ k h. c.loop-i.invariant.each k (omega arith)),
    )
