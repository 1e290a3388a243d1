-- In a run in which every step is finished, no step is ready and no input is missing.
use Rattle.std.proofs.Common.{◌≡◌, ◌<◌, ℕ, length, refl, List, [], ◌∷◌, sym, ◌∙◌, arith, All}
use Rattle.std.proofs.lemmas.Bool.{false≢true}
use Rattle.std.proofs.lemmas.List.Elements.{All-head, All-tail}
use Rattle.plan_ir.specs.Plans.{inputs_at}
use Rattle.plan_compiler.specs.Compiled.{IsCompiled, SetView}
use Rattle.step_scheduler.specs.declared.events.Event.{Event}
use Rattle.step_scheduler.specs.Runs.{IsReady, unfinished}
use Rattle.step_scheduler.specs.near.Whole.{IsCourse}
use Rattle.step_scheduler.proofs.RunOrder.{finished_was_taken}

pub none_ready : (set : SetView) (history : List Event) → IsCourse set history → (k : ℕ) → IsReady set.plan history k → ⊥
none_ready set history course k ready =
    false≢true (sym ready.fresh ∙ finished_was_taken set.plan history course.run k (course.all k ready.in_range))

all_done : (set : SetView) (history : List Event) → IsCourse set history → (is : List ℕ) → All (λ i. i < length set.plan) is
    → unfinished history is ≡ 0
all_done set history course [] range = refl
all_done set history course (i ∷ is) range =
    let here = course.all i (All-head (λ j. j < length set.plan) i is range) in
    let rest = all_done set history course is (All-tail (λ j. j < length set.plan) i is range) in
    rw here (omega (arith, rest))

-- no step misses an input
pub none_missing : (set : SetView) (history : List Event) → IsCompiled set → IsCourse set history → (k : ℕ)
    → k < length set.plan → unfinished history (inputs_at set.plan k) ≡ 0
none_missing set history compiled course k lt = all_done set history course (inputs_at set.plan k) (compiled.in_range k lt)
