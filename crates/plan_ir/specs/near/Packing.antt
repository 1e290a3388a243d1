-- Lists of numbers stored one after another, each given by its start and its length.
use Rattle.std.specs.Prelude.{ℕ, ◌+◌, ◌≤◌, List, drop, length, take}
use Rattle.plan_ir.specs.declared.lists.Span.{Span}

-- the numbers of a span
abbrev pub list_in : List ℕ → Span → List ℕ
list_in numbers span = take span.len (drop span.start numbers)

-- a span ends within the numbers
abbrev pub IsWithin : List ℕ → Span → Type 0
IsWithin numbers span = span.start + span.len ≤ length numbers
