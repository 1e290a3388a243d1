use Rattle.inter_credit.proofs.Sizes.{are_sums}
use Rattle.inter_credit.proofs.requirement.risk_less_credit.Goals as goal

pub overflow_sub-result : goal.overflow_sub-result
overflow_sub-result c =
    (are_sums c.get.result c.get-2.result c.get-3.result c.get-4.result c.args.scan c.args.intra c.args.delivery c.args.credit
    c.get.ensures.value c.get-2.ensures.value c.get-3.ensures.value c.get-4.ensures.value
    c.requires.scan c.requires.intra c.requires.delivery c.requires.credit).fits

pub returns-clause-value : goal.returns-clause-value
returns-clause-value c =
    (are_sums c.get.result c.get-2.result c.get-3.result c.get-4.result c.args.scan c.args.intra c.args.delivery c.args.credit
    c.get.ensures.value c.get-2.ensures.value c.get-3.ensures.value c.get-4.ensures.value
    c.requires.scan c.requires.intra c.requires.delivery c.requires.credit).value

pub returns-clause-bound : goal.returns-clause-bound
returns-clause-bound c =
    (are_sums c.get.result c.get-2.result c.get-3.result c.get-4.result c.args.scan c.args.intra c.args.delivery c.args.credit
    c.get.ensures.value c.get-2.ensures.value c.get-3.ensures.value c.get-4.ensures.value
    c.requires.scan c.requires.intra c.requires.delivery c.requires.credit).bound
