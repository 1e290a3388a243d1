-- How a block of bytes is cut into lines.
use Rattle.std.specs.Prelude.{◌≡◌, ℕ, List, [], ◌∷◌, ◌++◌, Bool, MatchBool}
use Rattle.desks.specs.Requests.{Kept}
use Rattle.desks.specs.near.Keeping.{HasNoFeed, added}

-- the bytes up to the first line feed are added to the line, and the line feed is dropped
pub record CutsLine (old new : List ℕ) (old_line new_line : Kept) : Type 0 where
  pub front : List ℕ
  pub no_feed : HasNoFeed front
  pub bytes : old ≡ front ++ 10 ∷ new
  pub line : new_line ≡ added old_line front

-- all bytes are added to the line, since none of them is a line feed
pub record CutsAll (old new : List ℕ) (old_line new_line : Kept) : Type 0 where
  pub no_feed : HasNoFeed old
  pub rest : new ≡ []
  pub line : new_line ≡ added old_line old

-- a block was cut at its first line feed, if it has one
abbrev pub Cuts : List ℕ → List ℕ → Kept → Kept → Bool → Type 0
Cuts old new old_line new_line found = MatchBool found (CutsLine old new old_line new_line) (CutsAll old new old_line new_line)
