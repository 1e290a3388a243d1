-- The reciprocals by which sides are multiplied in place of a division by a ratio.
use Rattle.std.specs.Prelude.{ℕ, ◌/◌}

-- the reciprocal of a ratio, in units of 2^-64
abbrev pub reciprocal_of : ℕ → ℕ
reciprocal_of ratio = 18446744073709551615 / ratio
