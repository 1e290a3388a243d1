-- The definitions that a proof unfolds to compute on literals.
use Rattle.std.specs.Prelude.{⊤}
use Rattle.statement.specs.AllFaults.{faults_of, faults_of_params, faults_of_positions, faults_text}
use Rattle.statement.specs.Counts.{counts_line, counts_of}
use Rattle.statement.specs.Margin.{margin_of}
use Rattle.statement.specs.Rolls.{roll_of}
use Rattle.statement_text.specs.near.OnLiterals.{on_literals as text_on_literals}

-- all names that a computation on literals unfolds
unfoldable pub on_literals : ⊤
unfolding text_on_literals margin_of counts_line counts_of roll_of faults_of faults_of_params faults_of_positions faults_text
on_literals = tt
