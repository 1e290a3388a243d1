-- `first_that_holds` returns the first fault whose test is true.
use Rattle.std.proofs.Common.{◌≡◌, refl, subst, Bool, true, false, List, [], ◌∷◌, ◌++◌, Some, None}
use Rattle.std.specs.Prelude.{All}
use Rattle.std.specs.List.{AllByRecursion}
use Rattle.std.proofs.lemmas.List.Elements.{All-head, All-tail}
use Rattle.span_tables.specs.Faults.{first_that_holds}

module _ {F : Type 0} where
  abbrev Fails : Bool × F → Type 0
  Fails x = x.0 ≡ false

  pub first_holds : (front rest : List (Bool × F)) (y : F) → All Fails front
      → first_that_holds (front ++ (true, y) ∷ rest) ≡ Some y
  first_holds [] rest y none = refl
  first_holds (x ∷ front) rest y none =
      rw (All-head Fails x front none) (first_holds front rest y (All-tail Fails x front none))

  pub none_holds : (faults : List (Bool × F)) → All Fails faults → first_that_holds faults ≡ None
  none_holds [] fail = refl
  none_holds (x ∷ faults) fail = rw (All-head Fails x faults fail) (none_holds faults (All-tail Fails x faults fail))

  -- a property of all faults is true of the first one that is present
  pub first_is : (P : F → Type 0) (faults : List (Bool × F)) (y : F) → AllByRecursion (λ x. P x.1) faults
      → first_that_holds faults ≡ Some y → P y
  first_is P [] y each is = cc
  first_is P ((true, z) ∷ faults) y each is = let same : z ≡ y = cc in subst P same each.0
  first_is P ((false, z) ∷ faults) y each is = first_is P faults y each.1 is

  pub all_fail : (faults : List (Bool × F)) → first_that_holds faults ≡ None → AllByRecursion Fails faults
  all_fail [] none = tt
  all_fail ((true, y) ∷ faults) none = cc
  all_fail ((false, y) ∷ faults) none = (refl, all_fail faults none)
