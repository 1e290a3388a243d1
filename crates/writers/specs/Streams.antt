-- The observable state of a writer.
use Rattle.std.specs.Prelude.{◌≡◌, ⊤, ℕ, Bool, false, List, Option, MatchBool}
use Rattle.std.specs.Io.KnownBytes.{Appends}

-- the bytes written to a writer, if they are known; whether a write or a flush failed; and whether everything written
-- was flushed
pub record Stream : Type 0 where
  pub held : Option (List ℕ)
  pub failed : Bool
  pub flushed : Bool

-- exactly these bytes were added, unless a write has failed
abbrev pub Says : Stream → Stream → List ℕ → Type 0
Says old new bytes = MatchBool new.failed ⊤ ((old.failed ≡ false) × Appends old.held new.held bytes)
