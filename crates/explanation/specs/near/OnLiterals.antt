-- The definitions that a proof unfolds to compute on literals.
use Rattle.std.specs.Prelude.{⊤}
use Rattle.span_money.specs.ExactDecimals.{exact_decimal}
use Rattle.reasons.specs.Reasons.{reasons_of}
use Rattle.statement_text.specs.near.OnLiterals.{on_literals as statement_on_literals}
use Rattle.explanation.specs.Explanation.{account_text, explanation_of}

-- all definitions that computing on literals unfolds
unfoldable pub on_literals : ⊤
unfolding statement_on_literals exact_decimal reasons_of account_text explanation_of
on_literals = tt
