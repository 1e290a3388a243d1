use Rattle.std.proofs.Common.{◌≡◌, ◌∙◌, ap, length, arith, refl}
use Rattle.std.specs.Arc.{arc_value}
use Rattle.plan_compiler.specs.Meaning.{last_total, meaning}
use Rattle.plan_compiler.specs.Places.{place_of}
use Rattle.plan_compiler.proofs.Meanings.{meaning-before_total}
use Rattle.plan_compiler.proofs.FromPlan.{known_before_total, place-before_total}
use Rattle.plan_compiler.proofs.PlanLaw.{step_at_place}
use Rattle.plan_compiler.proofs.set.CompiledSet.total_step.Goals as goal

pub returns : goal.returns
returns c =
    let t = (arc_value c.self.inside.shared).tables in
    let n = length t.commodities in
    let place : c.total_step.result ≡ place_of t (last_total t) =
    rw (c.total_step.ensures.value, c.commodities.ensures.value, c.deref.ensures) (rw (place-before_total t n) refl) in
    let step = step_at_place _ _ _ _ _ c.self.invariant.0 _ c.self.view_is (last_total t) (known_before_total t n (omega arith)) _ place in
    record {
      in_range = step.0;
      op = rw (← c.self.view_is) (rw (← c.self.view_is) at step.1);
      means = rw (← c.self.view_is)
          (λ holdings. ap (meaning t holdings) (rw (← c.self.view_is) at step.1) ∙ meaning-before_total t holdings n);
    }
