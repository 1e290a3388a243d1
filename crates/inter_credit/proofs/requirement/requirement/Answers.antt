use Rattle.std.proofs.Common.{◌≡◌, ◌≤◌, ◌+◌, ◌*◌, nat_abs, lit<, ap, arith}
use Rattle.inter_credit.specs.declared.requirement.TheConstants.{MAX_PART}
use Rattle.inter_credit.proofs.Sizes.{same_larger, size-int_max}
use Rattle.inter_credit.proofs.requirement.requirement.Goals as goal

pub new-requires : goal.new-requires
new-requires c =
    let risk = c.risk_less_credit-risk.result in
    let minimum = c.get.result in
    let parts : nat_abs minimum ≤ MAX_PART = omega (arith, ap nat_abs c.get.ensures.value) in
    let small : nat_abs risk + nat_abs minimum ≤ 5 * MAX_PART = omega (arith, parts) in
    rw (same_larger risk minimum c.max.result (5 * MAX_PART) small (lit< tt) c.max.ensures.value)
    (omega (arith, small, size-int_max risk minimum))

pub returns-clause-bound : goal.returns-clause-bound
returns-clause-bound c =
    let risk = c.risk_less_credit-risk.result in
    let minimum = c.get.result in
    let same : nat_abs minimum ≡ nat_abs c.args.minimum = ap nat_abs c.get.ensures.value in
    let small : nat_abs risk + nat_abs minimum ≤ 5 * MAX_PART = omega (arith, same) in
    rw (c.new.ensures, same_larger risk minimum c.max.result (5 * MAX_PART) small (lit< tt) c.max.ensures.value)
    (omega (arith, same, size-int_max risk minimum))
