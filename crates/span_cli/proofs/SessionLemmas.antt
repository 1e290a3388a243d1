-- What is written for a session that was served.
use Rattle.std.proofs.Common.{◌≡◌, ◌∙◌, ◌⊎◌, ◌++◌, ◌-◌, ◌^◌, ◌+◌, ℕ, Bool, true, false, List, [], ◌∷◌, Option, Result, Ok, Err}
use Rattle.std.proofs.Common.{refl, sym, ap, subst, inl, inr, length}
use Rattle.std.proofs.lemmas.List.{map-append}
use Rattle.std.proofs.lemmas.List.Elements.{All-weaker}
use Rattle.std.specs.Prelude.{All, IfSome, OnOk, flat_map}
use Rattle.desks.specs.Desks.{Dealing, Deals}
use Rattle.desks.specs.Events.{Asked, Event, asked_in, told_in}
use Rattle.desks.specs.Takings.{Takes}
use Rattle.desks.specs.declared.intake.Reach.TheVariants as reach
use Rattle.desks.proofs.DealingLemmas.{all_requests, asked_in-append, cut_off_requests, first_requests}
use Rattle.desks.specs.declared.desk.DeskFault.{DeskFault}
use Rattle.desks.specs.declared.desk.DeskFault.TheVariants as desk
use Rattle.session.specs.Answers.{State}
use Rattle.session.specs.Conversations.{AreFromSource, HasFileAsked, IsFromSource, IsServed, Turn, answer_text, answers_from}
use Rattle.session.specs.Conversations.{events_from, files_of, log_of, opening_text, state_after}
use Rattle.session.specs.Conversations as conversation
use Rattle.sources.specs.Files.{File, ReadGives}
use Rattle.writers.specs.Streams.{Says, Stream}
use Rattle.span_cli.specs.Serving.{ended_answer}
use Rattle.span_cli.specs.Sessions.{Ends, IsConversation, around, requests_of}
use Rattle.span_cli.specs.Telling.{Tells, told}
use Rattle.span_cli.specs.near.Sessions.{TellsSession, ending_of, texts_from}

-- the bytes of texts
abbrev flat : List (List ℕ) → List ℕ
flat texts = flat_map (λ text. text) texts

-- nothing is known of what a failed stream has
says_failed : (old new : Stream) (bytes : List ℕ) → new.failed ≡ true → Says old new bytes
says_failed old new bytes failed = rw failed tt

-- ---- the log

asked_from : (n : ℕ) (s : State) (turns : List Turn) → asked_in (events_from n s turns) ≡ requests_of turns
asked_from n s [] = refl
asked_from n s (turn ∷ turns) =
    ap (λ requests. turn.request ∷ requests) (asked_from (n + 1) (state_after s (conversation.answer_of s turn)) turns)

told_from : (n : ℕ) (s : State) (turns : List Turn) → told_in (events_from n s turns) ≡ flat (answers_from n s turns)
told_from n s [] = refl
told_from n s (turn ∷ turns) =
    ap (λ bytes. answer_text n (conversation.answer_of s turn) ++ bytes)
    (told_from (n + 1) (state_after s (conversation.answer_of s turn)) turns)

asked_log : (s : State) (turns : List Turn) → asked_in (log_of s turns) ≡ requests_of turns
asked_log s turns = asked_from 1 s turns

told_log : (s : State) (turns : List Turn) → told_in (log_of s turns) ≡ flat (texts_from s turns)
told_log s turns = ap (λ bytes. opening_text s ++ bytes) (told_from 1 s turns)

-- some events were logged
pub some_logged : (s : State) (r : Result (Unit {0}) DeskFault) (turns : List Turn) (logged : List Event → Type 0)
    → IsServed s r turns logged → (events : List Event) × logged events
some_logged s (Ok done) turns logged is = (log_of s turns, is)
some_logged s (Err desk.Input) turns logged is = (log_of s turns, is)
some_logged s (Err desk.Output) turns logged (inl (none, is)) = ([], is)
some_logged s (Err desk.Output) turns logged (inr (done, last, parts, is)) = (log_of s done ++ Asked last.request ∷ [], is)

-- ---- the end

-- a session between these two states of its desk
module _ (s : State) (old new : Dealing) (logged : List Event → Type 0)
    (deals : (events : List Event) → logged events → Deals old events new) (begun : old.reach ≡ reach.Open) (turns : List Turn) where
  taken : (events : List Event) → logged events → asked_in events ≡ requests_of turns
      → Takes reach.Open old.coming new.reach new.coming (requests_of turns)
  taken events is same =
      subst (λ asked. Takes reach.Open old.coming new.reach new.coming asked) same
      (subst (λ from. Takes from old.coming new.reach new.coming (asked_in events)) begun (deals events is).takes)

  -- the requests of the turns were taken
  takes_so : (r : Result (Unit {0}) DeskFault) → IsServed s r turns logged
      → Takes reach.Open old.coming new.reach new.coming (requests_of turns)
  takes_so (Ok done) is = taken (log_of s turns) is (asked_log s turns)
  takes_so (Err desk.Input) is = taken (log_of s turns) is (asked_log s turns)
  takes_so (Err desk.Output) (inl (none, is)) = taken [] is (sym (ap requests_of none))
  takes_so (Err desk.Output) (inr (done, last, parts, is)) =
      taken (log_of s done ++ Asked last.request ∷ []) is
      (asked_in-append (log_of s done) (Asked last.request ∷ [])
      ∙ ap (λ requests. requests ++ last.request ∷ []) (asked_log s done)
      ∙ sym (map-append (λ (t : Turn). t.request) done (last ∷ []))
      ∙ sym (ap requests_of parts))

  module _ (file : List ℕ → Option File) (r : Result (Unit {0}) DeskFault) (served : IsServed s r turns logged)
      (done : OnOk r ((new.reach ≡ reach.Ended) ⊎ (length turns ≡ 2 ^ 64 - 1))) (cut : r ≡ Err desk.Input → new.reach ≡ reach.CutOff)
      (unwritten : r ≡ Err desk.Output → new.output.failed ≡ true) where
    -- how the session ended
    ends_so : (q : Result (Unit {0}) DeskFault) → r ≡ q → (failed : Bool) → new.output.failed ≡ failed
        → Ends (ending_of failed q) (around file old.coming turns failed)
    ends_so q is_q true is = refl
    ends_so (Ok u) is_q false is =
        elim (rw is_q at done) [
          | inl end ↦ inl (all_requests old.coming new.coming (requests_of turns) (rw end at takes_so r served))
          | inr last ↦ inr last
        ]
    ends_so (Err desk.Input) is_q false is =
        cut_off_requests old.coming new.coming (requests_of turns) (rw (cut is_q) at takes_so r served)
    ends_so (Err desk.Output) is_q false is = let failed = unwritten is_q in cc

    pub conversed : All HasFileAsked turns → All (IsFromSource file) (files_of turns)
        → IsConversation (around file old.coming turns new.output.failed) (ending_of new.output.failed r)
    conversed asked files = record {
      first = first_requests old.coming new.reach new.coming (requests_of turns) (takes_so r served);
      asked = asked;
      files = files;
      ends = ends_so r refl new.output.failed refl;
    }

    -- what was written to the output
    said : (q : Result (Unit {0}) DeskFault) → r ≡ q → IsServed s q turns logged → (failed : Bool) → new.output.failed ≡ failed
        → Says old.output new.output (ended_answer (ending_of failed q) (texts_from s turns)).out
    said q is_q is_served true is = says_failed old.output new.output _ is
    said (Ok u) is_q logs false is =
        subst (λ bytes. Says old.output new.output bytes) (told_log s turns) (deals (log_of s turns) logs).says
    said (Err desk.Input) is_q logs false is =
        subst (λ bytes. Says old.output new.output bytes) (told_log s turns) (deals (log_of s turns) logs).says
    said (Err desk.Output) is_q logs false is = let failed = unwritten is_q in cc

    -- the status and the line of an end do not depend on the texts
    same_status : (q : Result (Unit {0}) DeskFault) (failed : Bool)
        → (told failed (ended_answer (ending_of failed q) [])).status
        ≡ (told failed (ended_answer (ending_of failed q) (texts_from s turns))).status
    same_status q true = refl
    same_status (Ok u) false = refl
    same_status (Err fault) false = refl

    same_line : (q : Result (Unit {0}) DeskFault) (failed : Bool)
        → (told failed (ended_answer (ending_of failed q) [])).err
        ≡ (told failed (ended_answer (ending_of failed q) (texts_from s turns))).err
    same_line q true = refl
    same_line (Ok u) false = refl
    same_line (Err fault) false = refl

    cause : (q : Result (Unit {0}) DeskFault) (failed : Bool) → failed ≡ true
        → (ended_answer (ending_of failed q) (texts_from s turns)).err ≡ []
    cause q true is = refl
    cause q false is = cc

    pub ended_tells : (given : ℕ) (old_err new_err : Stream)
        → given ≡ (told new.output.failed (ended_answer (ending_of new.output.failed r) [])).status
        → Says old_err new_err (told new.output.failed (ended_answer (ending_of new.output.failed r) [])).err
        → Tells (ended_answer (ending_of new.output.failed r) (texts_from s turns)) given old.output new.output old_err new_err
    ended_tells given old_err new_err status line = record {
      status = status ∙ same_status r new.output.failed;
      out = said r refl served new.output.failed refl;
      err = subst (λ bytes. Says old_err new_err bytes) (same_line r new.output.failed) line;
      cause = cause r new.output.failed;
    }

-- a session that was served has written its answers and its line, and returned its status
pub serves_session : {S : Type 0} (file : List ℕ → Option File) (reads : S → List ℕ → Bool → S → Type 0) (before after : S) (s : State)
    (r : Result (Unit {0}) DeskFault) (old new : Dealing) (logged : List Event → Type 0) (given : ℕ) (new_out old_err new_err : Stream)
    → ((events : List Event) → logged events → Deals old events new) → old.reach ≡ reach.Open
    → ((turns : List Turn) × AreFromSource file reads before turns after × IsServed s r turns logged
    × OnOk r ((new.reach ≡ reach.Ended) ⊎ (length turns ≡ 2 ^ 64 - 1)))
    → (r ≡ Err desk.Input → new.reach ≡ reach.CutOff) → (r ≡ Err desk.Output → new.output.failed ≡ true) → new.output ≡ new_out
    → given ≡ (told new.output.failed (ended_answer (ending_of new.output.failed r) [])).status
    → Says old_err new_err (told new.output.failed (ended_answer (ending_of new.output.failed r) [])).err
    → (turns : List Turn) × AreFromSource file reads before turns after
    × TellsSession file old.coming s turns given old.output new_out old_err new_err
serves_session file reads before after s r old new logged given new_out old_err new_err deals begun (turns, source, served, done) cut
    unwritten same_new status line = (
      turns,
      source,
      rw (← same_new) (record {
        ending = ending_of new.output.failed r;
        is = conversed s old new logged deals begun turns file r served done cut unwritten source.asked source.files;
        told = ended_tells s old new logged deals begun turns file r served done cut unwritten given old_err new_err status line;
      }),
    )

-- ---- sources

-- files from one source are also files from another source that has the same ones under all names
pub same_source : (later file : List ℕ → Option File) (asked : List (List ℕ × File)) → ((name : List ℕ) → later name ≡ file name)
    → All (IsFromSource later) asked → All (IsFromSource file) asked
same_source later file asked same h =
    All-weaker (IsFromSource later) (IsFromSource file)
    (λ f held. subst (λ (known : Option File). IfSome known (λ found. ReadGives (λ bytes. bytes) found f.1)) (same f.0) held) asked h
