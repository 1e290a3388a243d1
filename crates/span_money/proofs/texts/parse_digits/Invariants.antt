use Rattle.std.proofs.Common.{◌≡◌, ◌^◌, ◌<◌, take, true}
use Rattle.std.specs.List.{list_all}
use Rattle.std.specs.Char.{is_ascii_digit}
use Rattle.span_money.specs.Numbers.{digits_value}
use Rattle.span_money.proofs.texts.parse_digits.Given as goal

abbrev pub invariant-loop-byte : goal.invariant-loop-byte
invariant-loop-byte l = record {
  digits : list_all is_ascii_digit (take l.byte-index l.text) ≡ true;
  value : l.n ≡ digits_value (take l.byte-index l.text);
  small : l.n < 10 ^ l.byte-index;
}
