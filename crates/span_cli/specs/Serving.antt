-- The answer to a request.
use Rattle.std.specs.Prelude.{◌≡◌, ℕ, Bool, true, false, List, [], ◌∷◌, ◌++◌, flat_map, codes, map, Option, Some, None, Result, Ok, Err, ⊤}
use Rattle.explanation.specs.Explanation.{explanation_of}
use Rattle.session.specs.Conversations.{Turn, session_of}
use Rattle.statement.specs.AllFaults.{faults_of, faults_status, faults_text}
use Rattle.statement.specs.Counts.{counts_of}
use Rattle.statement.specs.Listing.{listing_of}
use Rattle.statement_text.specs.FaultLines.{fault_line, fault_status, memory_line}
use Rattle.statement.specs.Rolls.{GivesRoll}
use Rattle.statement.specs.Margin.{margin_of}
use Rattle.statement_text.specs.declared.faults.SpanFault.{SpanFault}
use Rattle.statement_text.specs.declared.statuses.TheConstants.{DONE, FILE_FAILED, OUT_OF_MEMORY}
use Rattle.whatif.specs.Whatif.{whatif_of}
use Rattle.sources.specs.Files.{File}
use Rattle.sources.specs.declared.ReadFault.{ReadFault}
use Rattle.sources.specs.declared.ReadFault.TheVariants as read
use Rattle.span_cli.specs.Sessions.{AtEnd, CutOff, Ending, IsConversation, Outside, Unwritten, found_under}
use Rattle.span_cli.specs.declared.requests.Command.{Command}
use Rattle.span_cli.specs.declared.requests.Command.TheVariants.{Check, Plan, Margin, Explain, Roll, WhatIf, Faults}
use Rattle.span_cli.specs.declared.requests.Request.{Request}
use Rattle.span_cli.specs.declared.requests.Service.{Service}
use Rattle.span_cli.specs.declared.requests.Service.TheVariants.{Once, Session}

-- a status, and the bytes for the output and for the error stream
pub record Answer : Type 0 where
  pub status : ℕ
  pub out : List ℕ
  pub err : List ℕ

-- success, with these bytes
abbrev pub done : List ℕ → Answer
done text = record { status = DONE; out = text; err = [] }

-- rejected: a status and a line, and nothing on the output
abbrev pub refused : ℕ → List ℕ → Answer
refused status line = record { status = status; out = []; err = line }

-- out of memory
abbrev pub memory : Answer
memory = refused OUT_OF_MEMORY memory_line

-- a file that cannot be read
abbrev pub file_line : List ℕ → List ℕ
file_line name = codes "file: " ++ name ++ codes "\n"

-- the answer for the bytes or the fault that a call returns
abbrev pub answer_of : Result (List ℕ) SpanFault → Answer
answer_of (Ok text) = done text
answer_of (Err e) = refused (fault_status e) (fault_line e)

-- The answer with faults: their lines on the output, and the status of the first fault. Without a fault it is success,
-- with no bytes.
abbrev pub answer_of_faults : List SpanFault → Answer
answer_of_faults faults = record { status = faults_status faults; out = faults_text faults; err = [] }

-- a file that is not read
abbrev pub unread : List ℕ → ReadFault → Answer
unread name read.Failed = refused FILE_FAILED (file_line name)
unread name read.TooLong = refused FILE_FAILED (file_line name)
unread name read.OutOfMemory = memory

-- requests are read from the input
abbrev pub takes_requests : Service → Bool
takes_requests (Once command) = false
takes_requests (Session workers) = true

-- the turns of a session; a command has none
abbrev pub turns_in : Service → List Turn → List Turn
turns_in (Once command) turns = []
turns_in (Session workers) turns = turns

-- what a request asks for, and the names of its files in the order in which they are read
abbrev pub Asked : Type 0
Asked = Service × List (List ℕ)

abbrev pub asked_by : Request → Asked
asked_by request = (request.service, map (λ name. name.now) request.files.items)

-- A roll of these bytes on this many workers may have this answer: its text, the first fault of the files, out of
-- memory, or a rejection by the result store (book) or the published parameter set (shelf).
pub record IsOfRoll (workers : ℕ) (params next positions : List ℕ) (answer : Answer) : Type 0 where
  pub given : Result (List ℕ) SpanFault
  pub gives : GivesRoll (λ text. text) workers params next positions given
  pub is : answer ≡ answer_of given

-- The answer is the command's for these bytes of its files. With any other number of files it has none.
abbrev pub answered : Command → List (List ℕ) → Answer → Type 0
answered Check (params ∷ []) answer = answer ≡ answer_of (counts_of params)
answered Plan (params ∷ []) answer = answer ≡ answer_of (listing_of params)
answered (Margin workers) (params ∷ positions ∷ []) answer = answer ≡ answer_of (margin_of workers params positions)
answered (Explain account) (params ∷ positions ∷ []) answer = answer ≡ answer_of (explanation_of params positions account)
answered (Roll workers) (params ∷ next ∷ positions ∷ []) answer = IsOfRoll workers params next positions answer
answered (WhatIf workers) (params ∷ positions ∷ orders ∷ []) answer =
    answer ≡ answer_of (whatif_of workers params positions orders)
answered Faults (params ∷ []) answer = answer ≡ answer_of_faults (faults_of params None)
answered Faults (params ∷ positions ∷ []) answer = answer ≡ answer_of_faults (faults_of params (Some positions))
answered command files answer = ⊥

-- The answer of a session with this end and these texts. If an answer could not be written, a part of the texts was
-- written.
abbrev pub ended_answer : Ending → List (List ℕ) → Answer
ended_answer AtEnd texts = done (flat_map (λ text. text) texts)
ended_answer CutOff texts =
    record { status = FILE_FAILED; out = flat_map (λ text. text) texts; err = file_line (codes "input") }
ended_answer Unwritten texts = done (flat_map (λ text. text) texts)

-- The answer is the one of a session with these texts, or a rejection of its files. A rejected session takes no
-- request.
abbrev pub IsOfSession : Outside → Result (List (List ℕ)) SpanFault → Answer → Type 0
IsOfSession outside (Ok texts) answer = (ending : Ending) × IsConversation outside ending × (answer ≡ ended_answer ending texts)
IsOfSession outside (Err e) answer = (outside.turns ≡ []) × (answer ≡ answer_of (Err e))

-- the answer is given by the service for these bytes of its files in this environment
abbrev pub answered_amid : Outside → Service → List (List ℕ) → Answer → Type 0
answered_amid outside (Once command) files answer = answered command files answer
answered_amid outside (Session workers) (params ∷ positions ∷ []) answer =
    IsOfSession outside (session_of params positions outside.turns) answer
answered_amid outside (Session workers) files answer = ⊥

-- The result of reading files: the bytes of all, or the answer that names the first that cannot be read, or nothing if
-- a file that is reached is unknown.
abbrev pub Found : Type 0
Found = Option (Result (List (List ℕ)) Answer)

-- a file that is read before others
abbrev pub read_before : List ℕ → Option File → Found → Found
read_before name None others = None
read_before name (Some (Err e)) others = Some (Err (unread name e))
read_before name (Some (Ok bytes)) None = None
read_before name (Some (Ok bytes)) (Some (Err refusal)) = Some (Err refusal)
read_before name (Some (Ok bytes)) (Some (Ok files)) = Some (Ok (bytes ∷ files))

-- the result of reading files in their order, up to the first that cannot be read
abbrev pub all_read : (List ℕ → Option File) → List (List ℕ) → Found
all_read file [] = Some (Ok [])
all_read file (name ∷ names) = read_before name (file name) (all_read file names)

-- the result of reading the files of a request
abbrev pub found_by : (List ℕ → Option File) → Asked → Found
found_by file asked = all_read (found_under (takes_requests asked.0) file) asked.1

-- The answer is given by the service for this result of reading its files. If the result is unknown, any answer is
-- possible. If a file cannot be read, no request is taken.
abbrev pub IsAnswered : Outside → Service → Found → Answer → Type 0
IsAnswered outside service None answer = ⊤
IsAnswered outside service (Some (Err refusal)) answer = (outside.turns ≡ []) × (answer ≡ refusal)
IsAnswered outside service (Some (Ok files)) answer = answered_amid outside service files answer

-- the answer is an answer to the request
abbrev pub IsAnswer : Outside → Asked → Answer → Type 0
IsAnswer outside asked answer = IsAnswered outside asked.0 (found_by outside.file asked) answer
