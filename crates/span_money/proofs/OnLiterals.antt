-- The definitions that the test vectors unfold to compute on literals.
use Rattle.std.specs.Prelude.{⊤}
use Rattle.std.specs.Fmt.{digits}
use Rattle.span_money.specs.ExactDecimals.{exact_decimal}

-- all definitions that are unfolded to compute on literals
unfoldable pub exact_on_literals : ⊤
unfolding digits exact_decimal
exact_on_literals = tt
