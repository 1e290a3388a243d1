use Rattle.std.proofs.Common.{[], Ok, ap}
use Rattle.std.proofs.lemmas.Result.{err_from_is_err_and}
use Rattle.desks.specs.Events.{request_of}
use Rattle.desks.proofs.DealingLemmas.{takes_after}
use Rattle.desks.proofs.intake.Requests.take.Goals as goal

pub returns-in_err-taken-clause-takes : goal.returns-in_err-taken-clause-takes
returns-in_err-taken-clause-takes g c =
    let p = err_from_is_err_and c.from_residual.result c.from_residual.ensures.1 in
    rw p.1 (takes_after c.args.self.now.reach c.loop-taken.self.reach c.take_line.new.self.reach _ _ _ [] []
    c.loop-taken.invariant.takes c.in_err-taken.ensures.takes)

pub returns-in-Some-clause-takes : goal.returns-in-Some-clause-takes
returns-in-Some-clause-takes g c =
    takes_after c.args.self.now.reach c.loop-taken.self.reach c.take_line.new.self.reach _ _ _ []
    (request_of (Ok c.in-Some.taken) c.take_line.new.self.line.bytes) c.loop-taken.invariant.takes
    (rw c.in-Some.is at c.in_ok-taken.ensures.takes)

pub loop-taken-preserved : goal.loop-taken-preserved
loop-taken-preserved g c = record {
  reach = c.in_ok-taken.ensures.more (ap Ok c.in_default.is);
  takes = takes_after c.args.self.now.reach c.loop-taken.self.reach c.take_line.new.self.reach _ _ _ [] []
      c.loop-taken.invariant.takes (rw c.in_default.is at c.in_ok-taken.ensures.takes);
}
