-- How a session ends, and what it writes, in terms of the values that the code has.
use Rattle.std.specs.Prelude.{ℕ, Bool, true, false, List, ◌∷◌, Option, Result, Ok, Err}
use Rattle.desks.specs.declared.desk.DeskFault.{DeskFault}
use Rattle.session.specs.Answers.{State}
use Rattle.session.specs.Conversations.{Turn, answers_from, opening_text}
use Rattle.sources.specs.Files.{File}
use Rattle.writers.specs.Streams.{Stream}
use Rattle.span_cli.specs.Serving.{ended_answer}
use Rattle.span_cli.specs.Sessions.{AtEnd, CutOff, Ending, IsConversation, Unwritten, around}
use Rattle.span_cli.specs.Telling.{Tells}

-- how a session ended, by whether its output could not be written and by the result of its run
abbrev pub ending_of : Bool → Result (Unit {0}) DeskFault → Ending
ending_of true served = Unwritten
ending_of false (Ok done) = AtEnd
ending_of false (Err fault) = CutOff

-- the texts of the answers of a session that begins in this state
abbrev pub texts_from : State → List Turn → List (List ℕ)
texts_from s turns = opening_text s ∷ answers_from 1 s turns

-- a session that begins in this state was served, and its answers were written
pub record TellsSession (file : List ℕ → Option File) (input : Option (List ℕ)) (s : State) (turns : List Turn) (given : ℕ)
    (old_out new_out old_err new_err : Stream) : Type 0 where
  pub ending : Ending
  pub is : IsConversation (around file input turns new_out.failed) ending
  pub told : Tells (ended_answer ending (texts_from s turns)) given old_out new_out old_err new_err
