-- The requests in the bytes of an input.
use Rattle.std.specs.Prelude.{ℕ, List, [], ◌∷◌, Bool, Option, Some, None, length, nat_lt, ◌==◌, if◌then◌else◌}
use Rattle.std.specs.List.{flat_map, list_any, slice_split}
use Rattle.std.specs.Io.BufRead.{strip_last}
use Rattle.desks.specs.declared.desk.TheConstants.{MAX_LINE}

-- the byte is a line feed
abbrev pub is_feed : ℕ → Bool
is_feed b = b == 10

-- A text without bytes is no request. A text with more than `MAX_LINE` bytes is a request that is not kept.
abbrev pub request_of_text : List ℕ → List (Option (List ℕ))
request_of_text text = if length text == 0 then [] else if nat_lt MAX_LINE (length text) then None ∷ [] else Some text ∷ []

-- the request of a line, if it is one: the line's bytes without one carriage return at their end
abbrev pub request_of_line : List ℕ → List (Option (List ℕ))
request_of_line line = request_of_text (strip_last 13 line)

-- The requests in the bytes of an input: the requests of its lines, in order. A line is the bytes up to a line feed or
-- to the end of the input. The last line may lack the line feed.
abbrev pub requests_in : List ℕ → List (Option (List ℕ))
requests_in input = flat_map request_of_line (slice_split is_feed input)

-- the lines of an input that end in a line feed: the bytes up to and including the last line feed
abbrev pub whole_lines : List ℕ → List ℕ
whole_lines [] = []
whole_lines (b ∷ bs) = if list_any is_feed (b ∷ bs) then b ∷ whole_lines bs else []

-- what is kept of a line: its first bytes, and whether it has more
pub record Kept : Type 0 where
  pub bytes : List ℕ
  pub more : Bool
