-- Where a file can be cut in two so that each part can be read by itself.
use Rattle.std.specs.Prelude.{◌≡◌, ℕ, Bool, ◌==◌, List, [], ◌∷◌, ◌++◌}
use Rattle.std.specs.List.{list_any}
use Rattle.csv.specs.Reading.{strip_bom}

-- the last byte is a line feed
abbrev pub EndsInLineFeed : List ℕ → Type 0
EndsInLineFeed bytes = (front : List ℕ) × (bytes ≡ front ++ 10 ∷ [])

-- some byte is a double quote
abbrev pub has_quote : List ℕ → Bool
has_quote bytes = list_any (λ b. b == 34) bytes

-- the bytes do not begin with a byte order mark, which a reader skips only at the start of a file
abbrev pub BeginsWithNoMark : List ℕ → Type 0
BeginsWithNoMark bytes = strip_bom bytes ≡ bytes
