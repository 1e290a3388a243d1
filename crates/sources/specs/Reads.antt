-- The files of a source that are read, and their order.
use Rattle.std.specs.Prelude.{◌≡◌, ◌⊎◌, ℕ, Bool, true, false, List, [], ◌∷◌}

-- The files of these names were requested, each once and in this order, up to the first that could not be read. `reads`
-- states for one name that its file was requested, whether it could be read, and the source before and after the
-- request.
abbrev pub ReadsInOrder : {S : Type 0} → (S → List ℕ → Bool → S → Type 0) → S → List (List ℕ) → S → Type 0
ReadsInOrder reads old [] new = new ≡ old
ReadsInOrder {S} reads old (name ∷ names) new =
    reads old name false new ⊎ ((next : S) × reads old name true next × ReadsInOrder reads next names new)

-- The files of these names were requested, each once and in this order, and no others. Reading continues after a file
-- that could not be read. Each name is paired with whether its file could be read.
abbrev pub ReadsAll : {S : Type 0} → (S → List ℕ → Bool → S → Type 0) → S → List (List ℕ × Bool) → S → Type 0
ReadsAll reads old [] new = new ≡ old
ReadsAll {S} reads old (asked ∷ rest) new = (next : S) × reads old asked.0 asked.1 next × ReadsAll reads next rest new
