use Rattle.std.proofs.Common.{refl}
use Rattle.statement_text.specs.Statement.{statement_text}
use Rattle.session.specs.Accounts.{position_records}
use Rattle.session.specs.Answers.{answer_to}
use Rattle.session.specs.Conversations.{state_behind}
use Rattle.session.specs.Positions.{position_lines}
use Rattle.session.proofs.BoundAgainLemmas.{statement_again}
use Rattle.session.proofs.ReadAgainLemmas.{answers_again, opened_again}
use Rattle.session.proofs.laws.a_session_can_be_opened_again.Goals as goal

pub returns-clause-state : goal.returns-clause-state
unfolding answer_to
returns-clause-state c params positions current s turns begun accepted some =
    let last = state_behind s turns in (
      position_lines (position_records last.tables.contracts last.accounts),
      refl,
      opened_again params positions current s turns begun accepted some,
    )

pub returns-clause-records : goal.returns-clause-records
unfolding answer_to
returns-clause-records c params positions current file s turns begun accepted some read =
    let last = state_behind s turns in
    (statement_text last.tables last.accounts, statement_again params positions current file s turns begun accepted some read, refl)

pub returns-clause-answers : goal.returns-clause-answers
unfolding answer_to
returns-clause-answers c params positions current s turns begun accepted some =
    let last = state_behind s turns in (
      position_lines (position_records last.tables.contracts last.accounts),
      statement_text last.tables last.accounts,
      refl,
      refl,
      answers_again params positions current s turns begun accepted some,
    )
