-- The bytes that are kept of a line.
use Rattle.std.specs.Prelude.{◌≡◌, ℕ, ◌+◌, ◌||◌, false, List, [], ◌∷◌, ◌++◌, Option, None, All, length, nat_lt, take, if◌then◌else◌}
use Rattle.desks.specs.Requests.{Kept, is_feed, request_of_line}
use Rattle.desks.specs.declared.kept_lines.TheConstants.{KEPT}

-- what is kept of a line
abbrev pub kept_of : List ℕ → Kept
kept_of line = record { bytes = take KEPT line; more = nat_lt KEPT (length line) }

-- what is kept after these bytes are added to the line
abbrev pub added : Kept → List ℕ → Kept
added kept bytes =
    record { bytes = take KEPT (kept.bytes ++ bytes); more = kept.more || nat_lt KEPT (length kept.bytes + length bytes) }

-- the request of a line by what is kept of it, if it is a request
abbrev pub request_kept : Kept → List (Option (List ℕ))
request_kept kept = if kept.more then None ∷ [] else request_of_line kept.bytes

-- no byte is a line feed
abbrev pub HasNoFeed : List ℕ → Type 0
HasNoFeed bytes = All (λ b. is_feed b ≡ false) bytes
