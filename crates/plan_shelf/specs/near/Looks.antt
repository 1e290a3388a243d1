-- The result of one look of a reader.
use Rattle.std.specs.Prelude.{◌≡◌, List, length}
use Rattle.std.specs.Arc.{arc_value}
use Rattle.plan_compiler.specs.Compiled.{SetView}
use Rattle.plan_shelf.specs.Publications.{IsLast}
use Rattle.plan_shelf.specs.declared.readers.Look.{Look}
use Rattle.plan_shelf.specs.declared.readers.Look.TheVariants.{Nothing, Older, Last}

-- the result of a look agrees with the publications that the reader knew before it and knows after it
abbrev pub Finds : List SetView → List SetView → Look → Type 0
Finds old new Nothing = new ≡ old
Finds old new Older = new ≡ old
Finds old new (Last number set) = (number ≡ length new) × IsLast new (arc_value set)
