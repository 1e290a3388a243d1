-- The values that a board stores.
use Rattle.std.specs.Prelude.{◌≡◌, ℕ, ◌<◌, true, List, length, All, pos, Option, Some, None, IsSome, slice_index_or}
use Rattle.std.specs.Global.{Global}
use Rattle.std.specs.Arc.{arc_value}
use Rattle.std.specs.declared.sync.Arc.{Arc}
use Rattle.plan_ir.specs.Plans.{inputs_at}
use Rattle.plan_ir.specs.declared.values.Value.{Value}
use Rattle.plan_ir.specs.declared.values.Value.TheVariants as value
use Rattle.step_scheduler.specs.declared.progress.Progress.{Progress}
use Rattle.step_scheduler.specs.Jobs.{JobView, meaning_at}
use Rattle.step_scheduler.specs.near.Steps.{is_done, progress_at}

-- the slot for the value of a step
abbrev pub Slot : Type 0
Slot = Option (Arc Value Global)

-- the value in a slot
abbrev pub value_in : Slot → Value
value_in None = value.Total (pos 0)
value_in (Some v) = arc_value v

-- the slot of step k
abbrev pub slot_at : List Slot → ℕ → Slot
slot_at slots k = slice_index_or slots k None

-- the stored value of step k
abbrev pub value_at : List Slot → ℕ → Value
value_at slots k = value_in (slot_at slots k)

-- the values of the listed steps are stored
abbrev pub AreStored : List Slot → List ℕ → Type 0
AreStored slots steps = All (λ k. IsSome (slot_at slots k)) steps

-- each stored value is the meaning of its step
abbrev pub StoresMeanings : JobView → List Slot → Type 0
StoresMeanings job slots = (k : ℕ) → IsSome (slot_at slots k) → value_at slots k ≡ meaning_at job k

-- each stored value is the meaning of its step, and the value of each step that is done is stored
pub record AreRight (job : JobView) (steps : List Progress) (slots : List Slot) : Type 0 where
  pub long : length slots ≡ length job.set.plan
  pub means : StoresMeanings job slots
  pub here : (k : ℕ) → is_done (progress_at steps k) ≡ true → IsSome (slot_at slots k)

-- step k is in the plan, and the values of its inputs are stored
pub record CanBeGiven (job : JobView) (slots : List Slot) (k : ℕ) : Type 0 where
  pub in_range : k < length job.set.plan
  pub long : length slots ≡ length job.set.plan
  pub means : StoresMeanings job slots
  pub stored : AreStored slots (inputs_at job.set.plan k)

-- the values of all steps of the plan are stored
pub record HasAllValues (job : JobView) (slots : List Slot) : Type 0 where
  pub means : StoresMeanings job slots
  pub every : (k : ℕ) → k < length job.set.plan → IsSome (slot_at slots k)
