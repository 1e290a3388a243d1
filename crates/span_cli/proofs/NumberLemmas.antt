-- A text is parsed as the number that it spells.
use Rattle.std.proofs.Common.{◌≡◌, ℕ, Bool, true, false, Some, None, Result, Ok, Err, refl, ap, arith}
use Rattle.std.specs.Prelude.{if◌then◌else◌}
use Rattle.std.specs.Result.{result_ok}
use Rattle.std.specs.Str.Parse.{ParsesUnsigned, digits_value, without_leading_plus}
use Rattle.clap.specs.Lexer.{usize_max}
use Rattle.clap.specs.ValueTests.{is_unsigned_in}
use Rattle.clap.specs.Words.{Text}
use Rattle.clap.specs.declared.builder.value_parser.ValueParser.TheVariants as value_parser
use Rattle.clap.proofs.ValueTestLemmas.{Accepts-accepts, accepts-Accepts}
use Rattle.span_cli.specs.Words.{number_in}

taken : (test : Bool) (v n : ℕ) → test ≡ true → n ≡ v → Some n ≡ (if test then Some v else None)
taken true v n holds same = ap Some same
taken false v n holds same = cc

left_out : (test : Bool) (v : ℕ) → (test ≡ true → ⊥) → None ≡ (if test then Some v else None)
left_out true v fails = absurd (fails refl)
left_out false v fails = refl

pub number_read : {E : Type 0} (text : Text) (r : Result ℕ E) → ParsesUnsigned 64 10 text r → result_ok r ≡ number_in text
number_read text (Ok n) h =
    taken (is_unsigned_in 0 usize_max text) (digits_value 10 (without_leading_plus text)) n
    (Accepts-accepts false (value_parser.Unsigned 0 usize_max) text (h.0.0, h.0.1, omega arith, omega arith)) h.1
number_read text (Err e) h =
    left_out (is_unsigned_in 0 usize_max text) (digits_value 10 (without_leading_plus text)) (λ holds.
    let in_range = accepts-Accepts false (value_parser.Unsigned 0 usize_max) text holds in h (in_range.0, in_range.1))
