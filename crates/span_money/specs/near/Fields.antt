-- The texts of fields, whose values the code keeps unformatted.
use Rattle.std.specs.Prelude.{ℕ, ◌*◌, List, pos}
use Rattle.std.specs.Fmt.{signed_decimal}
use Rattle.span_money.specs.ExactDecimals.{exact_decimal}
use Rattle.span_money.specs.declared.line_fields.Field.{Field}
use Rattle.span_money.specs.declared.line_fields.Field.TheVariants as shows

-- the bytes of a field
abbrev pub field_text : Field → List ℕ
field_text (shows.Text text) = text.now
field_text (shows.Bytes bytes) = bytes.now
field_text (shows.Whole n) = signed_decimal n
field_text (shows.Half doubled) = exact_decimal 1 (pos (doubled * 5))
field_text (shows.FourPlaces n) = exact_decimal 4 n
field_text (shows.EightPlaces n) = exact_decimal 8 n
