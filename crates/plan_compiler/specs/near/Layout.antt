-- The numbers of first steps, in the form that the code keeps.
use Rattle.std.specs.Prelude.{◌≡◌, ℕ, ◌+◌, List, length, map}
use Rattle.std.specs.List.{range_with_len}
use Rattle.span_tables.specs.Tables.{AcceptedTables}
use Rattle.plan_compiler.specs.Places.{first_step}

-- the number of each commodity's first step, followed by the number of the first step between commodities
abbrev pub AreFirsts : AcceptedTables → List ℕ → Type 0
AreFirsts t firsts = firsts ≡ map (first_step t) (range_with_len 0 (length t.commodities + 1))
