-- The definitions that a proof unfolds to compute on literals.
use Rattle.std.specs.Prelude.{⊤}
use Rattle.binding.specs.Trades.{trade_fault, traded}
use Rattle.explanation.specs.near.OnLiterals.{on_literals as explanation_on_literals}
use Rattle.session.specs.Answers.{answer_to, opened}
use Rattle.session.specs.Conversations.{session_of}
use Rattle.session.specs.Requests.{request_of}
use Rattle.statement.specs.Counts.{counts_line}
use Rattle.whatif.specs.near.OnLiterals.{on_literals as whatif_on_literals}

-- all names that a computation on literals unfolds
unfoldable pub on_literals : ⊤
unfolding explanation_on_literals whatif_on_literals trade_fault traded counts_line request_of answer_to opened session_of
on_literals = tt
