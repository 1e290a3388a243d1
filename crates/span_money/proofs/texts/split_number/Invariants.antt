use Rattle.std.proofs.Common.{◌-◌, ◌≡◌, ◌^◌, ◌<◌, ◌≤◌, length, take, true}
use Rattle.std.specs.List.{list_all}
use Rattle.std.specs.Char.{is_ascii_digit}
use Rattle.span_money.specs.Numbers.{digits_value}
use Rattle.span_money.proofs.texts.split_number.Given as goal

abbrev pub invariant-loop-len : goal.invariant-loop-len
invariant-loop-len l = record {
  within : l.len ≤ l.most;
  few : l.most ≤ 18;
  inside : l.most ≤ length l.text;
  digits : list_all is_ascii_digit (take l.len l.text) ≡ true;
  value : l.n ≡ digits_value (take l.len l.text);
  small : l.n < 10 ^ l.len;
}

abbrev pub decreases-loop-len : goal.decreases-loop-len
decreases-loop-len l = l.most - l.len
