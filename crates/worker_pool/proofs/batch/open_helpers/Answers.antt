use Rattle.std.proofs.Common.{◌+◌, ap, arith, length}
use Rattle.worker_pool.proofs.TeamLemmas.{one_helper_more, one_longer}
use Rattle.worker_pool.proofs.batch.open_helpers.Goals as goal

pub loop-results-preserved : goal.loop-results-preserved
loop-results-preserved g c =
    let was = c.loop-results.invariant in
    let size = ap length c.in-Some.ensures.steps.0 in
    let pushed = c.in_ok-push-2.ensures.items in
    let longer = one_longer c.loop-results.all.items c.push-in-loop-results.new.self.items c.in_ok-helper.helper pushed in
    record {
      many = omega (arith, longer, size, was.many);
      numbers = one_helper_more _ (c.args.team.first + 1) c.loop-results.all.items c.push-in-loop-results.new.self.items
          c.in_ok-helper.helper pushed (omega (arith, c.in_ok-helper.ensures, c.number-number.ensures.own)) was.numbers;
    }
