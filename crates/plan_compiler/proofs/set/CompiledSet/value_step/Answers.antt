use Rattle.std.proofs.Common.{◌≡◌, ◌∙◌, true, ap, length, arith, refl, rules}
use Rattle.std.specs.Arc.{arc_value}
use Rattle.span_tables.specs.Tables.{facts_in}
use Rattle.plan_compiler.specs.Meaning.{last_value, meaning}
use Rattle.plan_compiler.specs.Places.{place_of}
use Rattle.plan_compiler.proofs.Meanings.{meaning-before_value}
use Rattle.plan_compiler.proofs.FromPlan.{known_before_value, place-before_value}
use Rattle.plan_compiler.proofs.PlanLaw.{step_at_place}
use Rattle.plan_compiler.proofs.set.CompiledSet.value_step.Goals as goal

pub returns : goal.returns
returns c =
    let t = (arc_value c.self.inside.shared).tables in
    let n = length t.commodities in
    let has : (facts_in t).options_have_value ≡ true = search rules in
    let place : c.premium_step.result ≡ place_of t (last_value t) =
    rw (c.premium_step.ensures, c.commodities.ensures.value, c.deref.ensures) (rw (place-before_value t n) refl) in
    let known = known_before_value t has n (omega arith) in
    let step = step_at_place _ _ _ _ _ c.self.invariant.0 _ c.self.view_is (last_value t) known _ place in
    record {
      some = search rules;
      in_range = step.0;
      op = rw (← c.self.view_is) (rw (← c.self.view_is) at step.1);
      means = rw (← c.self.view_is)
          (λ holdings. ap (meaning t holdings) (rw (← c.self.view_is) at step.1) ∙ meaning-before_value t holdings n);
    }
