-- How one line is read.
use Rattle.std.specs.Prelude.{◌≡◌, ℕ, ◌+◌, ◌*◌, Bool, true, false, List, [], ◌∷◌, ◌++◌, Option, Result, Ok, Err, length}
use Rattle.std.specs.Io.KnownBytes.{Consumes}
use Rattle.sources.specs.Readings.{Reading}
use Rattle.desks.specs.declared.blocks.TheConstants.{BLOCK}
use Rattle.desks.specs.declared.desk.DeskFault.{DeskFault}
use Rattle.desks.specs.declared.intake.Reach.{Reach}
use Rattle.desks.specs.declared.intake.Reach.TheVariants as reach
use Rattle.desks.specs.Requests.{Kept}
use Rattle.desks.specs.near.Keeping.{HasNoFeed, kept_of}

-- how far an input was read, by the result of reading a line
abbrev pub reach_after : Result Bool DeskFault → Reach
reach_after (Ok true) = reach.Open
reach_after (Ok false) = reach.Ended
reach_after (Err fault) = reach.CutOff

-- the end of a line that was read, or of the part of it that came before a failure
abbrev pub end_read : Result Bool DeskFault → List ℕ
end_read (Ok true) = 10 ∷ []
end_read (Ok false) = []
end_read (Err fault) = []

-- a line or a part of it was taken from the front of the bytes, with this end, and kept
pub record ReadsLine (bytes rest : Option (List ℕ)) (line : Kept) (end : List ℕ) : Type 0 where
  pub part : List ℕ
  pub no_feed : HasNoFeed part
  pub taken : Consumes bytes rest (part ++ end)
  pub kept : line ≡ kept_of part

-- a number that decreases as bytes are taken: a read gives no more than a block
abbrev pub measure_of : {R : Type 0} → Reading R → List ℕ → ℕ
measure_of reading block = reading.left * (BLOCK + 1) + length block
