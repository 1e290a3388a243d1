-- The balance rule of a deque or of the result queue: every item is of the batch, and is taken or left as often as it
-- was pushed.
use Rattle.std.specs.Prelude.{◌≡◌, ℕ, ◌+◌, ◌-◌, ◌<◌, List, [], ◌∷◌, ◌++◌, All}
use mathlib.Core.Option.{some}
use lib.ListN.{get_elem?}
use Rattle.step_scheduler.specs.Jobs.{JobView}
use Rattle.worker_pool.specs.declared.passes.PassView.{PassView}

-- the number of parts of all passes of one deque or queue together
abbrev pub ALL_PARTS : ℕ
ALL_PARTS = 1024

-- what a pass knows: its batch, its parts, and the items pushed and taken with it
abbrev pub knows : {T : Type 0} → List JobView → ℕ → List T → List T → PassView T
knows batch parts pushed taken = record { batch = batch; parts = parts; pushed = pushed; taken = taken }

module _ {T : Type 0} where
  -- the sum of the weights of the items
  abbrev pub weigh : (T → ℕ) → List T → ℕ
  weigh h [] = 0
  weigh h (x ∷ xs) = h x + weigh h xs

  -- the sum of f over all passes
  abbrev pub total : (PassView T → ℕ) → List (PassView T) → ℕ
  total f [] = 0
  total f (v ∷ vs) = f v + total f vs

  -- each item that was pushed was taken or is left, as often as it was pushed: the weights agree for every weight
  -- function
  abbrev pub AsOften : List T → List T → List T → Type 0
  AsOften pushed taken left = (h : T → ℕ) → weigh h pushed ≡ weigh h taken + weigh h left

  -- what a pass knows after more items were pushed with it
  abbrev pub with_pushed : PassView T → List T → PassView T
  with_pushed v items = knows v.batch v.parts (v.pushed ++ items) v.taken

  -- what a pass knows after more items were taken with it
  abbrev pub with_taken : PassView T → List T → PassView T
  with_taken v items = knows v.batch v.parts v.pushed (v.taken ++ items)

  -- what a pass knows after a new pass was split off it
  abbrev pub without_part : PassView T → PassView T
  without_part v = knows v.batch (v.parts - 1) v.pushed v.taken

  -- what a new pass knows that was split off another
  abbrev pub one_part : PassView T → PassView T
  one_part v = knows v.batch 1 [] []

  -- what a pass knows after another was merged into it
  abbrev pub merged : PassView T → PassView T → PassView T
  merged v other = knows v.batch (v.parts + other.parts) (v.pushed ++ other.pushed) (v.taken ++ other.taken)

  -- what a pass without parts knows
  abbrev pub nothing : PassView T
  nothing = knows [] 0 [] []

  -- a pass with all parts knows what is left
  abbrev pub KnowsLeft : PassView T → List T → Type 0
  KnowsLeft v left = v.parts ≡ ALL_PARTS → AsOften v.pushed v.taken left

module _ {T : Type 0} (IsOf : List JobView → T → Type 0) where
  -- after these items are taken, the pass knows them in addition to what it knew, and all of them are of its batch
  abbrev pub AreTaken : PassView T → List T → PassView T → Type 0
  AreTaken old items new = (new ≡ with_taken old items) × All (IsOf old.batch) items

  -- the pass knows what is left, and that everything left, pushed or taken is of its batch
  abbrev pub KnowsAll : PassView T → List T → Type 0
  KnowsAll v left = AsOften v.pushed v.taken left × All (IsOf v.batch) left × All (IsOf v.batch) v.pushed × All (IsOf v.batch) v.taken

  -- a pass without parts has empty lists, a pass with parts names the batch, and all items of its lists are of the
  -- batch
  pub record IsPassIn (batch : List JobView) (v : PassView T) : Type 0 where
    pub idle : v.parts ≡ 0 → (v.pushed ≡ []) × (v.taken ≡ [])
    pub named : 0 < v.parts → v.batch ≡ batch
    pub pushed : All (IsOf batch) v.pushed
    pub taken : All (IsOf batch) v.taken

  -- the balance rule, for the items inside and the views of all passes
  pub record IsBalanced (items : List T) (views : List (PassView T)) : Type 0 where
    pub batch : List JobView
    pub parts : total (λ v. v.parts) views ≡ ALL_PARTS
    pub balanced : (h : T → ℕ) → total (λ v. weigh h v.pushed) views ≡ total (λ v. weigh h v.taken) views + weigh h items
    pub inside : All (IsOf batch) items
    pub passes : (port : ℕ) (v : PassView T) → get_elem? views port ≡ some v → IsPassIn batch v
