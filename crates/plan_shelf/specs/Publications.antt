-- The publications of a shelf: a list of parameter sets that only grows at its end.
--
-- The view of the publisher is the whole list. The views of a reader and of the result of a publication are prefixes of
-- it.
--
-- `left_right` carries the last set to the readers, but its contracts alone cannot show that a reader never goes back.
-- They promise only the type invariant of the value that a look finds. Readers under a rule get more promises, but a
-- note can be learned only by a reader that is known to be of the note's table. After a look or a publication no
-- contract says which table a reader or a writer belongs to.
--
-- So the list is in a book of `logbook`, a history that exists only in the proofs. The code has one word of it, the
-- number of publications. The value that the publisher puts into a slot carries the history up to its own publication.
-- So the type of this value says what a reader finds.
use Rattle.std.specs.Prelude.{◌≡◌, ◌-◌, Some, List, length, slice_get}
use Rattle.plan_compiler.specs.Compiled.{SetView}

-- the last publication is this set
abbrev pub IsLast : List SetView → SetView → Type 0
IsLast sets set = slice_get sets (length sets - 1) ≡ Some set
