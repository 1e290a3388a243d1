-- Lines with the ids of an account, a parameter set and a commodity.
use Rattle.std.specs.Prelude.{ℕ, List, ◌++◌, flat_map, map}
use Rattle.span_money.specs.LineFields.{Line, line}
use Rattle.span_money.specs.near.Fields.{field_text}
use Rattle.span_money.specs.declared.line_fields.Field.{Field}

-- a line with these ids after its word
abbrev pub reason_text : List Field → Line → List ℕ
reason_text ids r = line (record { word = r.word; fields = map field_text ids ++ r.fields })

-- lines with the same ids after their words
abbrev pub reasons_text : List Field → List Line → List ℕ
reasons_text ids reasons = flat_map (reason_text ids) reasons
