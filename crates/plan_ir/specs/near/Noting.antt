-- The users of steps, while they are collected.
use Rattle.std.specs.Prelude.{◌≡◌, ℕ, List, [], ◌∷◌, ◌++◌, fold, length, map, slice_index_or, slice_set}
use Rattle.std.specs.List.{range_with_len}
use Rattle.plan_ir.specs.Plans.{places_from}
use Rattle.plan_ir.specs.declared.ops.Op.{Op}

-- the lists, with a number appended to each list at one of the indexes
abbrev pub noted : ℕ → List ℕ → List (List ℕ) → List (List ℕ)
noted number places lists = fold (λ ls place. slice_set ls place (slice_index_or ls place [] ++ number ∷ [])) lists places

-- for each number below n, the indexes of the lists that contain it
abbrev pub places_of_all : ℕ → List (List ℕ) → List (List ℕ)
places_of_all n lists = map (λ k. places_from 0 k lists) (range_with_len 0 n)

-- the parts of a plan agree: each operation has its inputs, and the users follow from the inputs
pub record IsPlan (ops : List Op) (inputs users : List (List ℕ)) : Type 0 where
  pub as_many : length inputs ≡ length ops
  pub users_are : users ≡ places_of_all (length ops) inputs
