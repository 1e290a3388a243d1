-- A whole conversation: the answers to a list of requests, one after the other.
use Rattle.std.specs.Prelude.{ℕ, ◌+◌, Bool, ◌&&◌, ◌||◌, if◌then◌else◌, List, [], ◌∷◌, ◌++◌, All, filter_map, map, codes, decimal}
use Rattle.std.specs.Prelude.{◌≡◌, ◌⊎◌, Option, Some, None, IfSome, Result, Ok, Err, false, true, is_ok, is_some}
use Rattle.span_money.specs.LineFields.{Line, line}
use Rattle.desks.specs.Events.{Event, Asked, Told}
use Rattle.desks.specs.declared.desk.DeskFault.{DeskFault}
use Rattle.desks.specs.declared.desk.DeskFault.TheVariants as desk
use Rattle.sources.specs.Files.{File, ReadGives}
use Rattle.span_tables.specs.declared.records.PositionRecord.{PositionRecord}
use Rattle.binding.specs.Trades.{booked}
use Rattle.binding.specs.declared.trades.Trade.{Trade}
use Rattle.sources.specs.Reads.{ReadsAll}
use Rattle.statement.specs.Counts.{counts_line}
use Rattle.statement_text.specs.Statement.{and_then, same}
use Rattle.statement_text.specs.declared.faults.SpanFault.{SpanFault}
use Rattle.session.specs.Answers.{Answered, State, answer_to, is_stdin, opened, unchanged}
use Rattle.session.specs.Refusals.{Refused, refusal_text}
use Rattle.session.specs.Refusals as refused
use Rattle.session.specs.Requests.{request_of}
use Rattle.session.specs.Requests as asked
use Rattle.session.specs.declared.faults.RequestFault.{RequestFault}
use Rattle.session.specs.declared.faults.RequestFault.TheVariants as form

-- ---- one request

-- A request, and what happened while it was answered: its line, or `None` if it is too long; the result of reading the
-- file that it asks for, if any; and whether memory ran out.
pub record Turn : Type 0 where
  pub request : Option (List ℕ)
  pub file : Option File
  pub is_out_of_memory : Bool

-- the content of a line as a request, or its fault
abbrev pub request_on : Option (List ℕ) → Result asked.Asked RequestFault
request_on None = Err form.LineTooLong
request_on (Some text) = request_of text

-- the answer to a request, or the refusal for its fault
abbrev pub answer_on : State → Option File → Result asked.Asked RequestFault → Result Answered Refused
answer_on s file (Ok what) = answer_to s file what
answer_on s file (Err e) = Err (refused.Form e)

-- the answer of a turn in a state
abbrev pub answer_of : State → Turn → Result Answered Refused
answer_of s turn = if turn.is_out_of_memory then Err refused.Memory else answer_on s turn.file (request_on turn.request)

-- the last line of the answer with this number, and the one line of a refusal
abbrev pub done_line : ℕ → Line
done_line n = record { word = codes "done"; fields = decimal n ∷ [] }

abbrev pub refused_line : ℕ → Refused → Line
refused_line n what = record { word = codes "refused"; fields = decimal n ∷ refusal_text what ∷ [] }

-- the text of the answer with this number: its lines and the last one, or the one line of a refusal
abbrev pub answer_text : ℕ → Result Answered Refused → List ℕ
answer_text n (Ok a) = a.lines ++ line (done_line n)
answer_text n (Err what) = line (refused_line n what)

-- the state after an answer; a refusal leaves it unchanged
abbrev pub state_after : State → Result Answered Refused → State
state_after s (Ok a) = a.state
state_after s (Err what) = s

-- ---- files

-- the file that a request asks for, if it asks for one and this is not the stream of requests
abbrev pub file_in : Result asked.Asked RequestFault → Option (List ℕ)
file_in (Ok (asked.Set name)) = if is_stdin name then None else Some name
file_in _ = None

-- a file that was asked for, and the result of reading it
abbrev pub given : Option (List ℕ) → Option File → Option (List ℕ × File)
given (Some name) (Some file) = Some (name, file)
given _ _ = None

-- the file that was asked for in a turn, and the result of reading it
abbrev pub file_of : Turn → Option (List ℕ × File)
file_of turn = given (file_in (request_on turn.request)) turn.file

-- the files that were asked for, each with the result of reading it
abbrev pub files_of : List Turn → List (List ℕ × File)
files_of turns = filter_map file_of turns

-- the same files, each with whether it could be read
abbrev pub reads_of : List Turn → List (List ℕ × Bool)
reads_of turns = map (λ f. (f.0, is_ok f.1)) (files_of turns)

-- the result of reading a file agrees with the source, as far as the content of the source is known
abbrev pub IsFromSource : (List ℕ → Option File) → List ℕ × File → Type 0
IsFromSource known asked = IfSome (known asked.0) (λ file. ReadGives (λ bytes. bytes) file asked.1)

-- a turn has the result of reading a file exactly if its request asks for one, unless memory ran out
abbrev pub HasFileAsked : Turn → Type 0
HasFileAsked turn = turn.is_out_of_memory ≡ false → is_some turn.file ≡ is_some (file_in (request_on turn.request))

-- The files that these turns ask for were read, the results agree with the source, as far as it is known, and no other
-- file was read. `known` is the content of the source under a name, and `reads` means that a file was asked for, as in
-- `ReadsAll`.
pub record AreFromSource {S : Type 0} (known : List ℕ → Option File) (reads : S → List ℕ → Bool → S → Type 0) (before : S)
    (turns : List Turn) (after : S) : Type 0 where
  pub asked : All HasFileAsked turns
  pub files : All (IsFromSource known) (files_of turns)
  pub in_order : ReadsAll reads before (reads_of turns) after

-- The request with number `n` was answered: by this turn, from one state to another, and with a text unless memory ran
-- out.
pub record IsTurn {S : Type 0} (known : List ℕ → Option File) (reads : S → List ℕ → Bool → S → Type 0) (before : S) (s : State) (n : ℕ)
    (turn : Turn) (after : S) (next : State) (text : List ℕ) : Type 0 where
  pub source : AreFromSource known reads before (turn ∷ []) after
  pub state : next ≡ state_after s (answer_of s turn)
  pub answer : turn.is_out_of_memory ≡ false → text ≡ answer_text n (answer_of s turn)

-- ---- all requests

-- the texts of the answers to requests, which are numbered from `n` on
abbrev pub answers_from : ℕ → State → List Turn → List (List ℕ)
answers_from n s [] = []
answers_from n s (turn ∷ turns) = answer_text n (answer_of s turn) ∷ answers_from (n + 1) (state_after s (answer_of s turn)) turns

-- the state after requests
abbrev pub state_behind : State → List Turn → State
state_behind s [] = s
state_behind s (turn ∷ turns) = state_behind (state_after s (answer_of s turn)) turns

-- the answers to requests, without numbers
abbrev pub outcomes : State → List Turn → List (Result Answered Refused)
outcomes s [] = []
outcomes s (turn ∷ turns) = answer_of s turn ∷ outcomes (state_after s (answer_of s turn)) turns

-- the texts of answers, which are numbered from `n` on
abbrev pub numbered_from : ℕ → List (Result Answered Refused) → List (List ℕ)
numbered_from n [] = []
numbered_from n (answer ∷ answers) = answer_text n answer ∷ numbered_from (n + 1) answers

-- the position records of trades of an account
abbrev pub booked_records : List ℕ → List Trade → List PositionRecord
booked_records account trades = map (booked account) trades

-- the position records that a request books, if it is a FILL
abbrev pub booked_by : Result asked.Asked RequestFault → List PositionRecord
booked_by (Ok (asked.Fill account trades)) = booked_records account trades
booked_by _ = []

-- the position records that the accepted requests book
abbrev pub booked_in : State → List Turn → List PositionRecord
booked_in s [] = []
booked_in s (turn ∷ turns) =
    (if is_ok (answer_of s turn) then booked_by (request_on turn.request) else [])
    ++ booked_in (state_after s (answer_of s turn)) turns

-- a request asks for another parameter set
abbrev pub is_set : Result asked.Asked RequestFault → Bool
is_set (Ok (asked.Set name)) = true
is_set _ = false

-- a SET was accepted in this turn
abbrev pub is_new_set : State → Turn → Bool
is_new_set s turn = is_ok (answer_of s turn) && is_set (request_on turn.request)

-- a SET was accepted in one of these turns
abbrev pub has_new_set : State → List Turn → Bool
has_new_set s [] = false
has_new_set s (turn ∷ turns) = is_new_set s turn || has_new_set (state_after s (answer_of s turn)) turns

-- a request may change the state: it is a FILL or a SET
abbrev pub may_change : Result asked.Asked RequestFault → Bool
may_change (Ok (asked.Fill account trades)) = true
may_change request = is_set request

-- answer 0, which opens a session
abbrev pub opening_text : State → List ℕ
opening_text s = answer_text 0 (unchanged s (line (counts_line s.tables)))

-- the answers of a session over two files to requests, beginning with the opening's; or the first fault of the files
unfoldable pub session_of : List ℕ → List ℕ → List Turn → Result (List (List ℕ)) SpanFault
session_of params positions turns = and_then same (opened params positions) (λ s. Ok (opening_text s ∷ answers_from 1 s turns))

-- ---- the log of a desk

-- each request followed by its answer, numbered from `n` on
abbrev pub events_from : ℕ → State → List Turn → List Event
events_from n s [] = []
events_from n s (turn ∷ turns) =
    Asked turn.request ∷ Told (answer_text n (answer_of s turn)) ∷ events_from (n + 1) (state_after s (answer_of s turn)) turns

-- the log of a session: answer 0, followed by each request and its answer
abbrev pub log_of : State → List Turn → List Event
log_of s turns = Told (opening_text s) ∷ events_from 1 s turns

-- What a session logged at a desk, and how the log ends: with an answer or, if an answer could not be written, with a
-- request that has no answer.
abbrev pub IsServed : State → Result (Unit {0}) DeskFault → List Turn → (List Event → Type 0) → Type 0
IsServed s (Ok done) turns logged = logged (log_of s turns)
IsServed s (Err desk.Input) turns logged = logged (log_of s turns)
IsServed s (Err desk.Output) turns logged =
    ((turns ≡ []) × logged [])
    ⊎ ((done : List Turn) × (last : Turn) × (turns ≡ done ++ last ∷ []) × logged (log_of s done ++ Asked last.request ∷ []))
