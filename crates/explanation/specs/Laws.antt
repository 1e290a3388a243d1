-- The definitions used by the lemmas.
use Rattle.std.specs.Prelude.{ℕ, ◌-◌, Bool, ◌||◌, ◌==◌, List, [], ◌∷◌, length, drop, map, take, bytes_eq, codes}
use Rattle.std.specs.List.{slice_split}
use Rattle.span_money.specs.LineFields.{Line}

-- a line is a line of the statement if its word is R or T
abbrev pub is_of_statement : Line → Bool
is_of_statement l = bytes_eq l.word (codes "R") || bytes_eq l.word (codes "T")

-- a line without the ids of account, parameter set and commodity
abbrev pub behind_ids : Line → Line
behind_ids l = record { word = l.word; fields = drop 3 l.fields }

-- ---- what is read from a text

-- the parts of a text between the occurrences of a byte
abbrev pub parts_at : ℕ → List ℕ → List (List ℕ)
parts_at byte text = slice_split (λ b. b == byte) text

-- a line with these parts: the first is its word, and the others are its fields
abbrev pub line_of_parts : List (List ℕ) → Line
line_of_parts [] = record { word = []; fields = [] }
line_of_parts (word ∷ fields) = record { word = word; fields = fields }

-- the parts of a text that end in a line feed: all except the last
abbrev pub ended_parts : List ℕ → List (List ℕ)
ended_parts text = let parts = parts_at 10 text in take (length parts - 1) parts

-- the lines of a text: each part that ends in a line feed, cut at its commas
abbrev pub lines_read : List ℕ → List Line
lines_read text = map (λ bytes. line_of_parts (parts_at 44 bytes)) (ended_parts text)
