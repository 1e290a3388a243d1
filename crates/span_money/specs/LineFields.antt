-- Lines of fields: a word, its fields with a comma in front of each, and a line feed.
use Rattle.std.specs.Prelude.{ℕ, List, [], ◌∷◌, ◌++◌, flat_map}

-- a line: its word, and the texts of its fields
pub record Line : Type 0 where
  pub word : List ℕ
  pub fields : List (List ℕ)

-- a comma, and the bytes of a field
abbrev pub field : List ℕ → List ℕ
field text = 44 ∷ text

-- the bytes of a line
abbrev pub line : Line → List ℕ
line l = l.word ++ (flat_map field l.fields ++ 10 ∷ [])
