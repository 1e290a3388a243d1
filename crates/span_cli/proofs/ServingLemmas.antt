-- What is written for an answer.
use Rattle.std.proofs.Common.{◌≡◌, ◌⊎◌, ◌++◌, ℕ, List, [], ◌∷◌, false, true, is_some, Option, Some, None, Result, Ok, Err}
use Rattle.std.proofs.Common.{◌+◌, ◌<◌, ◌&&◌, Bool, refl, sym, subst, ap, append_assoc, inl, inr, length, get_or, map, drop, Bor}
use Rattle.std.proofs.lemmas.List.{append-nil, at_drop_more}
use Rattle.std.specs.Prelude.{IfSome, if◌then◌else◌}
use Rattle.std.specs.Io.KnownBytes.{Appends}
use Rattle.session.specs.Answers.{State, is_stdin, opened}
use Rattle.session.specs.Conversations.{AreFromSource, Turn, files_of, reads_of, session_of}
use Rattle.session.specs.declared.session.Opened.{Opened}
use Rattle.sources.specs.Reads.{ReadsAll, ReadsInOrder}
use Rattle.clap.specs.Words.{HasKind, IsAmong, Kinds, Text, kind_of}
use Rattle.clap.specs.declared.error.Error.{Error}
use Rattle.clap.specs.declared.error.kind.ErrorKind.{ErrorKind}
use Rattle.clap.specs.declared.error.kind.ErrorKind.TheVariants as kind
use Rattle.writers.specs.Streams.{Says, Stream}
use Rattle.statement.specs.Rolls.{GivesRoll}
use Rattle.statement_text.specs.Gives.{Gives}
use Rattle.statement_text.specs.declared.faults.SpanFault.{SpanFault}
use Rattle.statement_text.specs.declared.faults.SpanFault.TheVariants as fault
use Rattle.span_cli.specs.Serving.{Answer, Asked, Found, IsAnswer, IsAnswered, IsOfRoll, all_read, answer_of, answered, memory}
use Rattle.span_cli.specs.Serving.{answered_amid, done, ended_answer, found_by, read_before, refused, takes_requests, turns_in}
use Rattle.span_cli.specs.Reads.{ReadsAsked}
use Rattle.span_cli.specs.Sessions.{AtEnd, CutOff, Ending, Ends, IsConversation, Outside, Unwritten, around, found_under, reads_under}
use Rattle.sources.specs.Files.{File}
use Rattle.sources.specs.declared.ReadFault.TheVariants as read
use Rattle.span_cli.specs.Telling.{AnswersWords, AreOpened, RefusesWordsBy, Serves, ServesAsked, TakesInput, TakesInputFor, Tells, told}
use Rattle.span_cli.specs.Words.{asked_in, is_request, request_in}
use Rattle.statement_text.specs.declared.statuses.TheConstants.{DONE, FILE_FAILED, OUT_OF_MEMORY}
use Rattle.span_cli.specs.Telling as telling
use Rattle.span_cli.specs.near.Refusals.{Loads, MayGive, Opens, TellsSome, read_then, refusal_answer}
use Rattle.span_cli.specs.near.Sessions.{TellsSession, texts_from}
use Rattle.span_cli.specs.declared.requests.Command.{Command}
use Rattle.span_cli.specs.declared.serving.Refusal.{Refusal}
use Rattle.span_cli.specs.declared.serving.Refusal.TheVariants as refusal
use Rattle.span_cli.specs.declared.requests.Service.{Service}
use Rattle.span_cli.specs.declared.requests.Service.TheVariants.{Once, Session}
use Rattle.span_cli.proofs.SessionLemmas.{same_source}

-- nothing was written
pub Appends-none : (o : Option (List ℕ)) → Appends o o []
Appends-none None = tt
Appends-none (Some xs) = sym (append-nil xs)

-- a rejection was written
pub refused_tells : (status : ℕ) (line : List ℕ) (given : ℕ) (out old_err new_err : Stream)
    → out.failed ≡ false → given ≡ status → Says old_err new_err line
    → Tells (refused status line) given out out old_err new_err
refused_tells status line given out old_err new_err fresh same said = record {
  status = rw fresh same;
  out = rw fresh (refl, Appends-none out.held);
  err = rw fresh said;
  cause = λ failed. cc;
}

-- ---- answers

-- the result of a call that returns a text
pub of_text : {Y : Type 0} (view : Y → List ℕ) (r : Result Y SpanFault) (meant : Result (List ℕ) SpanFault) → Gives view r meant
    → MayGive (λ y. done (view y)) r (λ answer. answer ≡ answer_of meant)
of_text view (Ok y) meant is = ap answer_of (sym is)
of_text view (Err e) meant (inl wanted) = inl wanted
of_text view (Err e) meant (inr is) = inr (ap answer_of (sym is.1))

-- the result of a roll
pub of_roll : {Y : Type 0} (view : Y → List ℕ) (workers : ℕ) (params next positions : List ℕ) (r : Result Y SpanFault)
    → GivesRoll view workers params next positions r
    → MayGive (λ y. done (view y)) r (IsOfRoll workers params next positions)
of_roll view workers params next positions (Ok y) h = record { given = Ok (view y); gives = h; is = refl }
of_roll view workers params next positions (Err e) h = inr (record { given = Err e; gives = h; is = refl })

-- the answer to a command was written, or its rejection
pub answer_told : (P : Answer → Type 0) (e : SpanFault) (given : ℕ) (out old_err new_err : Stream)
    → Tells (answer_of (Err e)) given out out old_err new_err → (e ≡ fault.Memory) ⊎ P (answer_of (Err e))
    → TellsSome P given out out old_err new_err
answer_told P e given out old_err new_err told (inl wanted) =
    inr (subst (λ (x : SpanFault). Tells (answer_of (Err x)) given out out old_err new_err) wanted told)
answer_told P e given out old_err new_err told (inr holds) = inl (answer_of (Err e), holds, told)

-- ---- files that are read one after the other

-- the next file was read
pub next_read : (whole : Found) (files : List (List ℕ)) (name : List ℕ) (file : Option File)
    (bytes : List ℕ) (others : Found) → IfSome file (λ f. f ≡ Ok bytes)
    → IfSome whole (λ o. read_then files (read_before name file others) ≡ Some o)
    → IfSome whole (λ o. read_then (files ++ bytes ∷ []) others ≡ Some o)
next_read None files name file bytes others known h = tt
next_read (Some o) files name None bytes others known h = cc
next_read (Some o) files name (Some f) bytes others known h = read others (rw known at h) where
  read : (others : Found)
      → read_then files (read_before name (Some (Ok bytes)) others) ≡ Some o
      → read_then (files ++ bytes ∷ []) others ≡ Some o
  read None h = h
  read (Some (Err refusal)) h = h
  read (Some (Ok rest)) h = rw (append_assoc) h

-- the next of these files was read
pub next_of_names : (file later : List ℕ → Option File) (whole : Found)
    (files : List (List ℕ)) (names : List (Bor (List ℕ))) (i : ℕ) (none : Bor (List ℕ)) (bytes : List ℕ) → i < length names
    → ((name : List ℕ) → later name ≡ file name) → IfSome (later (get_or names i none).now) (λ f. f ≡ Ok bytes)
    → IfSome whole (λ o. read_then files (all_read file (map (λ name. name.now) (drop i names))) ≡ Some o)
    → IfSome whole (λ o. read_then (files ++ bytes ∷ []) (all_read file (map (λ name. name.now) (drop (i + 1) names))) ≡ Some o)
next_of_names file later whole files names i none bytes within same known h =
    next_read whole files (get_or names i none).now _ bytes _
    (subst (λ o. IfSome o (λ f. f ≡ Ok bytes)) (same (get_or names i none).now) known)
    (rw (at_drop_more (λ rest. all_read file (map (λ name. name.now) rest)) names i none within) at h)

-- all files were read
pub last_read : (whole : Found) (files : List (List ℕ))
    → IfSome whole (λ o. read_then files (Some (Ok [])) ≡ Some o) → IfSome whole (λ o. o ≡ Ok files)
last_read None files h = tt
last_read (Some o) files h = let same = append-nil files in cc

-- the next file was not read
pub unread_found : {X : Type 0} (view : X → List ℕ) (whole : Found) (files : List (List ℕ))
    (name : List ℕ) (file : Option File) (others : Found) (r : Refusal)
    → IfSome file (λ f. Loads view name f (Err r))
    → IfSome whole (λ o. read_then files (read_before name file others) ≡ Some o)
    → IfSome whole (λ o. (r ≡ refusal.Fault fault.Memory) ⊎ (o ≡ Err (refusal_answer r)))
unread_found view None files name file others r known h = tt
unread_found view (Some o) files name None others r known h = cc
unread_found view (Some o) files name (Some f) others (refusal.File n) (same, inl failed) h =
    let found = rw (failed) at h in inr (rw (same) cc)
unread_found view (Some o) files name (Some f) others (refusal.File n) (same, inr long) h =
    let found = rw (long) at h in inr (rw (same) cc)
unread_found view (Some o) files name (Some f) others (refusal.Fault e) known h = inl (ap refusal.Fault known)

-- the next of these files was not read
pub unread_of_names : {X : Type 0} (view : X → List ℕ) (file later : List ℕ → Option File)
    (whole : Found) (files : List (List ℕ)) (names : List (Bor (List ℕ))) (i : ℕ)
    (none : Bor (List ℕ)) (r : Refusal) → i < length names → ((name : List ℕ) → later name ≡ file name)
    → IfSome (later (get_or names i none).now) (λ f. Loads view (get_or names i none).now f (Err r))
    → IfSome whole (λ o. read_then files (all_read file (map (λ name. name.now) (drop i names))) ≡ Some o)
    → IfSome whole (λ o. (r ≡ refusal.Fault fault.Memory) ⊎ (o ≡ Err (refusal_answer r)))
unread_of_names view file later whole files names i none r within same known h =
    let name = (get_or names i none).now in
    unread_found view whole files name (file name) _ r
    (subst (λ o. IfSome o (λ f. Loads view name f (Err r))) (same name) known)
    (rw (at_drop_more (λ rest. all_read file (map (λ name. name.now) rest)) names i none within) at h)

-- two sources with the same file under a name give the same result for it
pub found_same : (is_session : Bool) (file later : List ℕ → Option File) (name : List ℕ) → later name ≡ file name
    → found_under is_session later name ≡ found_under is_session file name
found_same is_session file later name same =
    ap (λ (o : Option File). if is_session && is_stdin name then Some (Err read.Failed) else o) same

-- ---- the answer to a request

-- a session has the texts of its state if its files open it, and their fault otherwise
session_texts : (params positions : List ℕ) (turns : List Turn) (s : State) → opened params positions ≡ Ok s
    → session_of params positions turns ≡ Ok (texts_from s turns)
unfolding session_of
session_texts params positions turns s is = rw is refl

session_fault : (params positions : List ℕ) (turns : List Turn) (e : SpanFault) → opened params positions ≡ Err e
    → session_of params positions turns ≡ Err e
unfolding session_of
session_fault params positions turns e is = rw is refl

-- no session has turns if there are none
no_turns : (service : Service) → turns_in service [] ≡ []
no_turns (Once command) = refl
no_turns (Session workers) = refl

-- an answer that the service gives for these files is an answer to the request that reads them
found_answer : (outside : Outside) (asked : Asked) (files : List (List ℕ)) (answer : Answer)
    → IfSome (found_by outside.file asked) (λ o. o ≡ Ok files) → answered_amid outside asked.0 files answer
    → IsAnswer outside asked answer
found_answer outside asked files answer known holds = of_files (found_by outside.file asked) known where
  of_files : (found : Found) → IfSome found (λ o. o ≡ Ok files) → IsAnswered outside asked.0 found answer
  of_files None known = tt
  of_files (Some o) is = rw is holds

-- only the files of the request were read
pub files_read : {S : Type 0} (reads : S → List ℕ → Bool → S → Type 0) (old new : S) (asked : Asked)
    → ReadsInOrder (reads_under (takes_requests asked.0) reads) old asked.1 new → ReadsAsked reads old [] (Some asked) new
files_read reads old new asked h =
    (new, h, subst (λ (turns : List Turn). ReadsAll reads new (reads_of turns) new) (sym (no_turns asked.0)) refl)

-- a rejection was reported, and is an answer to the request, or out of memory
refusal_serves : (outside : Outside) (asked : Asked) (r : Refusal) (given : ℕ) (out old_err new_err : Stream) → outside.turns ≡ []
    → Tells (refusal_answer r) given out out old_err new_err
    → (r ≡ refusal.Fault fault.Memory) ⊎ IsAnswer outside asked (refusal_answer r) → Serves outside asked given out out old_err new_err
refusal_serves outside asked r given out old_err new_err none told (inl wanted) =
    inr (none, subst (λ (x : Refusal). Tells (refusal_answer x) given out out old_err new_err) wanted told)
refusal_serves outside asked r given out old_err new_err none told (inr is) =
    inl (record { answer = refusal_answer r; is = is; told = told })

-- a request whose files were not all read
pub unread_serves : (outside : Outside) (asked : Asked) (r : Refusal) (given : ℕ) (out old_err new_err : Stream) → outside.turns ≡ []
    → Tells (refusal_answer r) given out out old_err new_err
    → IfSome (found_by outside.file asked) (λ o. (r ≡ refusal.Fault fault.Memory) ⊎ (o ≡ Err (refusal_answer r)))
    → Serves outside asked given out out old_err new_err
unread_serves outside asked r given out old_err new_err none told known =
    refusal_serves outside asked r given out old_err new_err none told (of_files (found_by outside.file asked) known) where
      of_files : (found : Found) → IfSome found (λ o. (r ≡ refusal.Fault fault.Memory) ⊎ (o ≡ Err (refusal_answer r)))
          → (r ≡ refusal.Fault fault.Memory) ⊎ IsAnswered outside asked.0 found (refusal_answer r)
      of_files None known = inr tt
      of_files (Some o) (inl memory) = inl memory
      of_files (Some o) (inr unread) = inr (rw unread (none, refl))

-- a command was answered from the bytes of its files
pub once_serves : (outside : Outside) (asked : Asked) (command : Command) (files : List (List ℕ)) (given : ℕ)
    (old_out new_out old_err new_err : Stream) → outside.turns ≡ [] → asked.0 ≡ Once command
    → IfSome (found_by outside.file asked) (λ o. o ≡ Ok files) → TellsSome (answered command files) given old_out new_out old_err new_err
    → Serves outside asked given old_out new_out old_err new_err
once_serves outside asked command files given old_out new_out old_err new_err none is known (inl (answer, holds, told)) =
    inl (record {
      answer = answer;
      is = found_answer outside asked files answer known (subst (λ s. answered_amid outside s files answer) (sym is) holds);
      told = told;
    })
once_serves outside asked command files given old_out new_out old_err new_err none is known (inr wanted) = inr (none, wanted)

-- a session whose files are rejected
pub unopened_serves : (outside : Outside) (asked : Asked) (workers : ℕ) (files : List (List ℕ)) (e : SpanFault) (given : ℕ)
    (out old_err new_err : Stream) → outside.turns ≡ [] → asked.0 ≡ Session workers
    → IfSome (found_by outside.file asked) (λ o. o ≡ Ok files) → Tells (refusal_answer (refusal.Fault e)) given out out old_err new_err
    → Opens files (Err e) → Serves outside asked given out out old_err new_err
unopened_serves outside asked workers files e given out old_err new_err none is known told opens =
    refusal_serves outside asked (refusal.Fault e) given out old_err new_err none told (of_files files opens known) where
      of_files : (files : List (List ℕ)) → Opens files (Err e) → IfSome (found_by outside.file asked) (λ o. o ≡ Ok files)
          → (refusal.Fault e ≡ refusal.Fault fault.Memory) ⊎ IsAnswer outside asked (refusal_answer (refusal.Fault e))
      of_files [] opens known = absurd opens
      of_files (params ∷ []) opens known = absurd opens
      of_files (params ∷ positions ∷ []) (inl memory) known = inl (ap refusal.Fault memory)
      of_files (params ∷ positions ∷ []) (inr refused) known =
          inr (found_answer outside asked (params ∷ positions ∷ []) _ known
          (subst (λ s. answered_amid outside s (params ∷ positions ∷ []) (refusal_answer (refusal.Fault e))) (sym is)
          (rw (session_fault params positions outside.turns e refused) (none, refl))))
      of_files (params ∷ positions ∷ more ∷ rest) opens known = absurd opens

-- the conversation of a session whose sources did not change before it
conversed_before : (file later : List ℕ → Option File) (input : Option (List ℕ)) (turns : List Turn) (is_unwritten : Bool) (ending : Ending)
    → ((name : List ℕ) → later name ≡ file name) → IsConversation (around later input turns is_unwritten) ending
    → IsConversation (around file input turns is_unwritten) ending
conversed_before file later input turns is_unwritten ending same h = record {
  first = h.first;
  asked = h.asked;
  files = same_source later file (files_of turns) same h.files;
  ends = ends_before ending h.ends;
} where
  ends_before : (end : Ending) → Ends end (around later input turns is_unwritten) → Ends end (around file input turns is_unwritten)
  ends_before AtEnd h = h
  ends_before CutOff h = h
  ends_before Unwritten h = h

-- a session that its files open was served
pub session_serves : {S : Type 0} (file later : List ℕ → Option File) (reads : S → List ℕ → Bool → S → Type 0) (old mid new : S)
    (input known_input : Option (List ℕ)) (asked : Asked) (workers : ℕ) (files : List (List ℕ)) (o : Opened) (given : ℕ)
    (old_out new_out old_err new_err : Stream) → asked.0 ≡ Session workers → known_input ≡ input
    → ((name : List ℕ) → later name ≡ file name) → IfSome (found_by file asked) (λ x. x ≡ Ok files) → Opens files (Ok o)
    → ReadsInOrder (reads_under (takes_requests asked.0) reads) old asked.1 mid
    → ((turns : List Turn) × AreFromSource later reads mid turns new
    × TellsSession later known_input o.session turns given old_out new_out old_err new_err)
    → (turns : List Turn) × Serves (around file input turns new_out.failed) asked given old_out new_out old_err new_err
    × ReadsAsked reads old turns (Some asked) new
session_serves {S} file later reads old mid new input known_input asked workers files o given old_out new_out old_err new_err is same_input
    same known opens in_order (turns, source, t) =
    (turns, inl (record { answer = answer; is = of_files files opens known; told = t.told }), (mid, in_order, after)) where
      outside : Outside
      outside = around file input turns new_out.failed

      answer : Answer
      answer = ended_answer t.ending (texts_from o.session turns)

      after : ReadsAll reads mid (reads_of (turns_in asked.0 turns)) new
      after = subst (λ s. ReadsAll reads mid (reads_of (turns_in s turns)) new) (sym is) source.in_order

      conversed : IsConversation outside t.ending
      conversed =
          conversed_before file later input turns new_out.failed t.ending same
          (subst (λ i. IsConversation (around later i turns new_out.failed) t.ending) same_input t.is)

      of_files : (files : List (List ℕ)) → Opens files (Ok o) → IfSome (found_by file asked) (λ x. x ≡ Ok files)
          → IsAnswer outside asked answer
      of_files [] opens known = absurd opens
      of_files (params ∷ []) opens known = absurd opens
      of_files (params ∷ positions ∷ []) opens known =
          found_answer outside asked (params ∷ positions ∷ []) answer known
          (subst (λ s. answered_amid outside s (params ∷ positions ∷ []) answer) (sym is)
          (rw (session_texts params positions turns o.session opens.0) (t.ending, conversed, refl)))
      of_files (params ∷ positions ∷ more ∷ rest) opens known = absurd opens

-- ---- the input

-- the status of a session that ended
ended_status : (failed : Bool) (ending : Ending) (texts : List (List ℕ)) (given : ℕ)
    → given ≡ (told failed (ended_answer ending texts)).status → (given ≡ DONE) ⊎ ((given ≡ FILE_FAILED) ⊎ (given ≡ OUT_OF_MEMORY))
ended_status true ending texts given is = inr (inl is)
ended_status false AtEnd texts given is = inl is
ended_status false CutOff texts given is = inr (inl is)
ended_status false Unwritten texts given is = inl is

-- for a session that its files open, the input may be read
pub opened_takes : (file : List ℕ → Option File) (asked : Asked) (workers : ℕ) (files : List (List ℕ)) (o : Opened) (given : ℕ)
    → asked.0 ≡ Session workers → IfSome (found_by file asked) (λ x. x ≡ Ok files) → Opens files (Ok o)
    → (given ≡ DONE) ⊎ ((given ≡ FILE_FAILED) ⊎ (given ≡ OUT_OF_MEMORY)) → TakesInput file asked given
opened_takes file asked workers files o given is known opens status =
    record { takes = ap takes_requests is; opens = of_found (found_by file asked) known (of_files files opens); status = status } where
      of_files : (files : List (List ℕ)) → Opens files (Ok o) → AreOpened (Ok files)
      of_files [] opens = absurd opens
      of_files (params ∷ []) opens = absurd opens
      of_files (params ∷ positions ∷ []) opens = (params, positions, o.session, refl, opens.0)
      of_files (params ∷ positions ∷ more ∷ rest) opens = absurd opens

      of_found : (found : Found) → IfSome found (λ x. x ≡ Ok files) → AreOpened (Ok files) → IfSome found AreOpened
      of_found None known opened = tt
      of_found (Some x) same opened = subst AreOpened (sym same) opened

-- the same for a session that was served
pub served_takes : {S : Type 0} (file later : List ℕ → Option File) (reads : S → List ℕ → Bool → S → Type 0) (mid new : S)
    (input : Option (List ℕ)) (asked : Asked) (workers : ℕ) (files : List (List ℕ)) (o : Opened) (given : ℕ)
    (old_out new_out old_err new_err : Stream) → asked.0 ≡ Session workers → IfSome (found_by file asked) (λ x. x ≡ Ok files)
    → Opens files (Ok o)
    → ((turns : List Turn) × AreFromSource later reads mid turns new
    × TellsSession later input o.session turns given old_out new_out old_err new_err) → TakesInput file asked given
served_takes file later reads mid new input asked workers files o given old_out new_out old_err new_err is known opens (turns, source, t) =
    opened_takes file asked workers files o given is known opens (ended_status new_out.failed t.ending _ given t.told.status)

-- the request is the one of valid arguments
pub input_for : {A : Type 0} (file : List ℕ → Option File) (words : List Text) (asked : Asked) (given : ℕ) → is_request words ≡ true
    → asked_in words ≡ Some asked → A ⊎ TakesInput file asked given → A ⊎ TakesInputFor file (request_in words) given
input_for file words asked given taken is (inl same) = inl same
input_for file words asked given taken is (inr takes) = inr (asked, rw taken is, takes)

-- the answer to a valid request may be out of memory
pub memory_serves : (outside : Outside) (o : Option Asked) (given : ℕ) (old_out new_out old_err new_err : Stream)
    → outside.turns ≡ [] → is_some o ≡ true → Tells memory given old_out new_out old_err new_err
    → ServesAsked outside o given old_out new_out old_err new_err
memory_serves outside None given old_out new_out old_err new_err none some told = cc
memory_serves outside (Some asked) given old_out new_out old_err new_err none some told = inr (none, told)

-- ---- arguments

-- arguments that are rejected because memory ran out
pub memory_told : (e : Error) (given : ℕ) (old_out new_out old_err new_err : Stream) → kind_of e ≡ kind.OutOfMemory
    → telling.RefusesWords (kind_of e) given old_out new_out old_err new_err → Tells memory given old_out new_out old_err new_err
memory_told e given old_out new_out old_err new_err wanted told =
    subst (λ (k : ErrorKind). telling.RefusesWords k given old_out new_out old_err new_err) wanted told

-- arguments that are rejected for an error of one of these kinds, or because memory ran out
refused_by : (kinds : Kinds) (e : Error) (given : ℕ) (old_out new_out old_err new_err : Stream) → HasKind kinds e
    → telling.RefusesWords (kind_of e) given old_out new_out old_err new_err → RefusesWordsBy kinds given old_out new_out old_err new_err
refused_by kinds e given old_out new_out old_err new_err (inl wanted) told = of_memory kinds where
  of_memory : (ks : Kinds) → RefusesWordsBy ks given old_out new_out old_err new_err
  of_memory [] = memory_told e _ _ _ _ _ wanted told
  of_memory (k ∷ ks) = inr (of_memory ks)
refused_by kinds e given old_out new_out old_err new_err (inr among) told = of_kind kinds among where
  of_kind : (ks : Kinds) → IsAmong (kind_of e) ks → RefusesWordsBy ks given old_out new_out old_err new_err
  of_kind [] among = absurd among
  of_kind (k ∷ ks) (inl is) = inl (subst (λ (x : ErrorKind). telling.RefusesWords x given old_out new_out old_err new_err) is told)
  of_kind (k ∷ ks) (inr later) = inr (of_kind ks later)

-- arguments that may be rejected: out of memory is reported, or an error of one of their kinds
pub words_refused : (kinds : Kinds) (answered : Type 0) (e : Error) (given : ℕ) (old_out new_out old_err new_err : Stream)
    → HasKind kinds e → telling.RefusesWords (kind_of e) given old_out new_out old_err new_err
    → (kinds ≡ [] → Tells memory given old_out new_out old_err new_err → answered)
    → AnswersWords kinds answered given old_out new_out old_err new_err
words_refused [] answered e given old_out new_out old_err new_err (inl wanted) told holds =
    holds refl (memory_told e _ _ _ _ _ wanted told)
words_refused [] answered e given old_out new_out old_err new_err (inr among) told holds = absurd among
words_refused (k ∷ ks) answered e given old_out new_out old_err new_err h told holds =
    refused_by (k ∷ ks) e given old_out new_out old_err new_err h told
