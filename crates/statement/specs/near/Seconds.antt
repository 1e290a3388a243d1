-- The second half of a roll, when the first statement is known and the positions are read.
use Rattle.std.specs.Prelude.{◌≡◌, ℕ, List, [], ◌∷◌, ◌++◌, true, false, Result, Ok}
use Rattle.span_tables.specs.Tables.{AcceptedTables}
use Rattle.span_tables.specs.declared.records.PositionRecord.{PositionRecord}
use Rattle.plan_compiler.specs.Compiled.{SetView}
use Rattle.statement.specs.Rolls.{Refuses, is_ok, of_next_set}
use Rattle.statement_text.specs.Statement.{accepted_of, and_then, same, statement_bound}
use Rattle.statement_text.specs.declared.faults.SpanFault.{SpanFault}

-- the statement of position records under the next parameters, or the first fault, under its name there
unfoldable pub second_of : List ℕ → List PositionRecord → Result (List ℕ) SpanFault
second_of next records =
    and_then of_next_set (accepted_of next) (λ tables.
    and_then of_next_set (statement_bound tables records) (λ text. Ok text))

-- why there is no second statement
abbrev pub RefusesSecond : List ℕ → List PositionRecord → SpanFault → Type 0
RefusesSecond next records e = Refuses (second_of next records) true (is_ok (accepted_of next)) e

-- why there is no next parameter set
abbrev pub RefusesNext : List ℕ → SpanFault → Type 0
RefusesNext next e =
    Refuses (and_then of_next_set (accepted_of next) (λ tables. Ok tables)) false (is_ok (accepted_of next)) e

-- why there is no statement under the tables of the next parameter set
abbrev pub RefusesUnder : AcceptedTables → List PositionRecord → SpanFault → Type 0
RefusesUnder tables records e =
    Refuses (and_then of_next_set (statement_bound tables records) (λ text. Ok text)) true false e

-- the second statement is appended to the first
abbrev pub Rolls : List ℕ → List PositionRecord → List ℕ → List ℕ → Type 0
Rolls next records first text = and_then same (second_of next records) (λ second. Ok (first ++ second)) ≡ Ok text

-- the second statement, under the tables of the next parameter set, is appended to the first
abbrev pub RollsUnder : AcceptedTables → List PositionRecord → List ℕ → List ℕ → Type 0
RollsUnder tables records first text =
    and_then of_next_set (statement_bound tables records) (λ second. Ok (first ++ second)) ≡ Ok text

-- the next parameter set was published after others
pub record IsPublished (next : List ℕ) (before after : List SetView) : Type 0 where
  pub set : SetView
  pub added : after ≡ before ++ set ∷ []
  pub accepted : accepted_of next ≡ Ok set.tables
