-- Records read one after another, each after the earlier ones.
use Rattle.std.specs.Prelude.{List, [], ◌∷◌, ◌++◌, Result, Ok, Err}
use Rattle.span_csv.specs.Records.{Fields}

-- reads on with the record appended, or returns its fault
abbrev pub go_on : {R F : Type 0} → (List R → Result (List R) F) → List R → Result R F → Result (List R) F
go_on more earlier (Err e) = Err e
go_on more earlier (Ok next) = more (earlier ++ next ∷ [])

-- the earlier records and the records of all rows, or the first fault; `next` gives the record of a row after earlier
-- ones, or its fault
unfoldable pub records_after : {R F : Type 0} → (List R → Fields → Result R F) → List R → List Fields → Result (List R) F
records_after next earlier [] = Ok earlier
records_after next earlier (r ∷ rest) = go_on (λ all. records_after next all rest) earlier (next earlier r)
