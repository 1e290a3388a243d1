use Rattle.std.proofs.Common.{◌≡◌, []}
use Rattle.desks.specs.Takings.{Takes, coming}
use Rattle.desks.specs.declared.intake.Reach.TheVariants as reach
use Rattle.desks.specs.near.Lines.{measure_of}
use Rattle.desks.proofs.intake.Requests.take.Given as goal

abbrev pub invariant-loop-taken : goal.invariant-loop-taken
invariant-loop-taken g l = record {
  reach : l.self.reach ≡ reach.Open;
  takes : Takes l.fn.self.reach (coming l.fn.self.block l.fn.self.reader) l.self.reach (coming l.self.block l.self.reader) [];
}

abbrev pub decreases-loop-taken : goal.decreases-loop-taken
decreases-loop-taken g l = measure_of l.self.reader l.self.block
