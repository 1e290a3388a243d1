-- Position records as lines of a position file.
use Rattle.std.specs.Prelude.{ℕ, List, [], ◌∷◌, flat_map}
use Rattle.std.specs.Fmt.{signed_decimal}
use Rattle.span_money.specs.LineFields.{line}
use Rattle.span_tables.specs.declared.records.PositionRecord.{PositionRecord}

-- the line of a position record
abbrev pub position_line : PositionRecord → List ℕ
position_line p = line (record { word = p.account; fields = p.contract ∷ signed_decimal p.quantity ∷ [] })

-- the lines of position records, in their order
abbrev pub position_lines : List PositionRecord → List ℕ
position_lines records = flat_map position_line records
