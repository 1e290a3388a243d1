-- A sample record for the test vectors of faults.
use Rattle.std.specs.Prelude.{ℕ, List, [], ◌∷◌}
use Rattle.span_tables.specs.declared.sides.Side.{Side}
use Rattle.span_tables.specs.declared.records.Record.{Record}
use Rattle.span_tables.specs.declared.records.Record.TheVariants as record_of

-- a spread of two commodities, each with its side
abbrev pub inter_sample : ℕ → List ℕ × Side → List ℕ × Side → Record
inter_sample priority one other =
    record_of.Inter (record {
      priority = priority;
      basis_points = 5000;
      legs = record {
        items = record { commodity = one.0; side = one.1; ratio = 10000 }
            ∷ record { commodity = other.0; side = other.1; ratio = 10000 } ∷ [];
      };
    })
