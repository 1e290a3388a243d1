-- How an answer is reported: what is printed on two writers that remember a failed write, and the status.
use Rattle.std.specs.Prelude.{◌≡◌, ◌⊎◌, ℕ, Bool, true, List, [], ◌∷◌, Option, Some, None, Result, Ok, IfSome, codes, if◌then◌else◌}
use Rattle.clap.specs.Words.{Kinds}
use Rattle.clap.specs.declared.error.kind.ErrorKind.{ErrorKind}
use Rattle.clap.specs.declared.error.kind.ErrorKind.TheVariants as kind
use Rattle.writers.specs.Streams.{Says, Stream}
use Rattle.session.specs.Answers.{State, opened}
use Rattle.sources.specs.Files.{File}
use Rattle.statement_text.specs.declared.statuses.TheConstants.{DONE, FILE_FAILED, OUT_OF_MEMORY, USAGE}
use Rattle.span_cli.specs.Serving.{Answer, Asked, IsAnswer, done, file_line, found_by, memory, refused, takes_requests}
use Rattle.span_cli.specs.Sessions.{Outside}

-- the output could not be written
abbrev pub unwritten : Answer
unwritten = refused FILE_FAILED (file_line (codes "output"))

-- what is reported in the end, depending on whether a write of the output failed
abbrev pub told : Bool → Answer → Answer
told failed answer = if failed then unwritten else answer

-- the answer was reported
pub record Tells (answer : Answer) (given : ℕ) (old_out new_out old_err new_err : Stream) : Type 0 where
  -- the status is the answer's, or 6 if the output could not be written
  pub status : given ≡ (told new_out.failed answer).status
  -- exactly the answer's bytes were written to the output, unless a write of them failed
  pub out : Says old_out new_out answer.out
  -- exactly the answer's line, or the line of a failed output, was written to the error stream, unless a write of it
  -- failed
  pub err : Says old_err new_err (told new_out.failed answer).err
  -- the output fails only for an answer with nothing for the error stream
  pub cause : new_out.failed ≡ true → answer.err ≡ []

-- an answer to the request was reported
pub record TellsAnswer (outside : Outside) (asked : Asked) (given : ℕ) (old_out new_out old_err new_err : Stream)
    : Type 0 where
  pub answer : Answer
  pub is : IsAnswer outside asked answer
  pub told : Tells answer given old_out new_out old_err new_err

-- an answer to the request was reported, or out of memory before any request of a session was taken
abbrev pub Serves : Outside → Asked → ℕ → Stream → Stream → Stream → Stream → Type 0
Serves outside asked given old_out new_out old_err new_err =
    TellsAnswer outside asked given old_out new_out old_err new_err
    ⊎ ((outside.turns ≡ []) × Tells memory given old_out new_out old_err new_err)

-- the request was answered, or out of memory was reported; false if there is no request
abbrev pub ServesAsked : Outside → Option Asked → ℕ → Stream → Stream → Stream → Stream → Type 0
ServesAsked outside None given old_out new_out old_err new_err = ⊥
ServesAsked outside (Some asked) given old_out new_out old_err new_err = Serves outside asked given old_out new_out old_err new_err

-- these files open a session
abbrev pub AreOpened : Result (List (List ℕ)) Answer → Type 0
AreOpened found =
    (params : List ℕ) × (positions : List ℕ) × (s : State) × (found ≡ Ok (params ∷ positions ∷ [])) × (opened params positions ≡ Ok s)

-- The input may be read for a request with this status: a session is asked for, its files open it, as far as they are known,
-- and the status is the one of a session that ended, or out of memory. For every other request the input is left alone.
pub record TakesInput (file : List ℕ → Option File) (asked : Asked) (given : ℕ) : Type 0 where
  pub takes : takes_requests asked.0 ≡ true
  pub opens : IfSome (found_by file asked) AreOpened
  pub status : (given ≡ DONE) ⊎ ((given ≡ FILE_FAILED) ⊎ (given ≡ OUT_OF_MEMORY))

-- the same for a request, if there is one
abbrev pub TakesInputFor : (List ℕ → Option File) → Option Asked → ℕ → Type 0
TakesInputFor file o given = (asked : Asked) × (o ≡ Some asked) × TakesInput file asked given

-- A usage error was reported, and nothing was written to the output. The text on the error stream is chosen by the
-- parser of arguments.
pub record IsMistake (given : ℕ) (old_out new_out : Stream) : Type 0 where
  pub status : given ≡ USAGE
  pub out : new_out ≡ old_out

-- Help or the version was shown. Nothing was written to the error stream, unless the output could not be written. The
-- text on the output is chosen by the parser of arguments.
pub record IsShown (given : ℕ) (new_out old_err new_err : Stream) : Type 0 where
  pub status : given ≡ (told new_out.failed (done [])).status
  pub err : Says old_err new_err (told new_out.failed (done [])).err

-- what is reported if arguments are rejected for an error of this kind
abbrev pub RefusesWords : ErrorKind → ℕ → Stream → Stream → Stream → Stream → Type 0
RefusesWords kind.OutOfMemory given old_out new_out old_err new_err = Tells memory given old_out new_out old_err new_err
RefusesWords kind.DisplayHelp given old_out new_out old_err new_err = IsShown given new_out old_err new_err
RefusesWords kind.DisplayVersion given old_out new_out old_err new_err = IsShown given new_out old_err new_err
RefusesWords other given old_out new_out old_err new_err = IsMistake given old_out new_out

-- what is reported if arguments are rejected for an error of one of these kinds, or because memory ran out
abbrev pub RefusesWordsBy : Kinds → ℕ → Stream → Stream → Stream → Stream → Type 0
RefusesWordsBy [] given old_out new_out old_err new_err = Tells memory given old_out new_out old_err new_err
RefusesWordsBy (k ∷ ks) given old_out new_out old_err new_err =
    RefusesWords k given old_out new_out old_err new_err ⊎ RefusesWordsBy ks given old_out new_out old_err new_err

-- What is reported for arguments with these kinds of error. Without a kind, their request is answered.
abbrev pub AnswersWords : Kinds → Type 0 → ℕ → Stream → Stream → Stream → Stream → Type 0
AnswersWords [] answered given old_out new_out old_err new_err = answered
AnswersWords (k ∷ ks) answered given old_out new_out old_err new_err =
    RefusesWordsBy (k ∷ ks) given old_out new_out old_err new_err

-- the line for an argument that is not UTF-8
abbrev pub no_text_line : List ℕ
no_text_line = codes "error: a word of the command line is not UTF-8\n"
