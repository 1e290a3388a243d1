-- Exact decimals: the text of a number in units of 10^-places, and the number that such a text spells.
use Rattle.std.specs.Prelude.{ℕ, zero, suc, ◌+◌, ◌-◌, ◌*◌, ◌/◌, ◌%◌, ◌^◌, ◌==◌, if◌then◌else◌}
use Rattle.std.specs.Prelude.{List, [], ◌∷◌, ◌++◌, length, drop, take_while, ℤ, pos, negsuc}
use Rattle.std.specs.Char.{is_ascii_digit}
use Rattle.std.specs.Fmt.{decimal}
use Rattle.span_money.specs.Numbers.{digits_value, has_minus, with_sign, without_minus}

-- the digits of a fraction with this number of decimal places, up to the last digit that is not 0
abbrev pub fraction_digits : ℕ → ℕ → List ℕ
fraction_digits zero f = []
fraction_digits (suc k) f = if f == 0 then [] else (48 + f / 10 ^ k) ∷ fraction_digits k (f % 10 ^ k)

-- the text after the whole part: nothing if the fraction is 0, else a point and the fraction's digits
abbrev pub fraction_text : ℕ → ℕ → List ℕ
fraction_text places f = if f == 0 then [] else 46 ∷ fraction_digits places f

-- the text of a number that is not negative
abbrev pub unsigned_exact : ℕ → ℕ → List ℕ
unsigned_exact places n = decimal (n / 10 ^ places) ++ fraction_text places (n % 10 ^ places)

-- a number in 10^-places, of at most 64 digits: a minus if it is below 0, its whole part, and its fraction
unfoldable pub exact_decimal : ℕ → ℤ → List ℕ
exact_decimal places (pos n) = unsigned_exact places n
exact_decimal places (negsuc n) = 45 ∷ unsigned_exact places (suc n)

-- the bytes after the point, if the text begins with one
abbrev pub behind_point : List ℕ → List ℕ
behind_point [] = []
behind_point (b ∷ rest) = if b == 46 then rest else []

-- the number that digits before and after a point spell, in 10^-places
abbrev pub parts_value : ℕ → List ℕ → List ℕ → ℕ
parts_value places front back = digits_value front * 10 ^ places + digits_value back * 10 ^ (places - length back)

-- the number that a text without a sign spells, in 10^-places: its leading digits, and the digits after the point that
-- follows
abbrev pub unsigned_value : ℕ → List ℕ → ℕ
unsigned_value places text =
    let front = take_while is_ascii_digit text in parts_value places front (behind_point (drop (length front) text))

-- the number that a text spells, in 10^-places
abbrev pub exact_value : ℕ → List ℕ → ℤ
exact_value places text = with_sign (has_minus text) (unsigned_value places (without_minus text))
