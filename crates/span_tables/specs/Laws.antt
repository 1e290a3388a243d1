-- The properties that the lemmas about the definitions state, in the terms of the methodology.
use Rattle.std.specs.Prelude.{◌≡◌, ℕ, ◌+◌, ◌*◌, ◌<◌, ◌≤◌, List, [], ◌∷◌, ◌++◌, length, Option, Some, None, ⊤}
use Rattle.std.specs.List.{AllByRecursion}
use Rattle.span_tables.specs.Sides.{Room}

-- n spreads use no more of any leg's side than it has
abbrev pub FitsRooms : ℕ → List Room → Type 0
FitsRooms n rooms = AllByRecursion (λ r. n * r.ratio ≤ r.side) rooms

-- each ratio is above 0
abbrev pub HaveRatios : List Room → Type 0
HaveRatios rooms = AllByRecursion (λ r. 0 < r.ratio) rooms

-- no element has a fault, given the elements before it
abbrev pub IsFaultFree : {A F : Type 0} → (List A → A → Option (ℕ → F)) → List A → List A → Type 0
IsFaultFree fault_of earlier [] = ⊤
IsFaultFree fault_of earlier (x ∷ xs) = (fault_of earlier x ≡ None) × IsFaultFree fault_of (earlier ++ x ∷ []) xs

-- the answer is the fault of an element, applied to the element's number
pub record IsFaultOfSome {A F : Type 0} (fault_of : List A → A → Option (ℕ → F)) (before xs : List A)
    (answer : F) : Type 0 where
  pub earlier : List A
  pub at : A
  pub later : List A
  pub split : xs ≡ earlier ++ at ∷ later
  pub fault : ℕ → F
  pub has : fault_of (before ++ earlier) at ≡ Some fault
  pub answers : answer ≡ fault (length (before ++ earlier) + 1)

-- the answer is the fault of an element, applied to the element's number, and no earlier element has a fault
pub record IsFirstFault {A F : Type 0} (fault_of : List A → A → Option (ℕ → F)) (before xs : List A)
    (answer : F) : Type 0 where
  pub earlier : List A
  pub at : A
  pub later : List A
  pub split : xs ≡ earlier ++ at ∷ later
  pub none_earlier : IsFaultFree fault_of before earlier
  pub fault : ℕ → F
  pub has : fault_of (before ++ earlier) at ≡ Some fault
  pub answers : answer ≡ fault (length (before ++ earlier) + 1)

-- the elements rise by their keys
abbrev pub IsRisingBy : {A : Type 0} → (A → ℕ) → List A → Type 0
IsRisingBy key [] = ⊤
IsRisingBy key (x ∷ xs) = AllByRecursion (λ y. key x ≤ key y) xs × IsRisingBy key xs

-- the elements' keys rise, and no two are equal
abbrev pub IsStrictlyRisingBy : {A : Type 0} → (A → ℕ) → List A → Type 0
IsStrictlyRisingBy key [] = ⊤
IsStrictlyRisingBy key (x ∷ xs) = AllByRecursion (λ y. key x < key y) xs × IsStrictlyRisingBy key xs

-- all outcomes before the answer are `None`
pub record IsFirstOutcome {F : Type 0} (outcomes : List (Option F)) (answer : F) : Type 0 where
  pub earlier : List (Option F)
  pub later : List (Option F)
  pub split : outcomes ≡ earlier ++ Some answer ∷ later
  pub none_earlier : AllByRecursion (λ o. o ≡ None) earlier
