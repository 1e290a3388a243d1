-- Turns of a session, one after the other: the files that they read, the states after them, and what a desk logs.
use Rattle.std.proofs.Common.{◌≡◌, ℕ, ◌+◌, Bool, List, [], ◌∷◌, ◌++◌, Option, get_or, length, map, refl, sym, ap, subst, ◌∙◌}
use Rattle.std.proofs.Common.{append-nil, append_assoc, arith}
use Rattle.std.proofs.lemmas.List.{map-append}
use Rattle.std.proofs.lemmas.List.Elements.{All-append, filter_map-append}
use Rattle.std.specs.Prelude.{All, IfSome, is_ok}
use Rattle.desks.specs.Events.{Asked, Event, Logs, Told}
use Rattle.sources.specs.Files.{File, ReadGives}
use Rattle.sources.specs.Reads.{ReadsAll}
use Rattle.session.specs.Answers.{State}
use Rattle.session.specs.Conversations.{AreFromSource, HasFileAsked, IsFromSource, Turn, answer_of, answer_text, events_from, file_of}
use Rattle.session.specs.Conversations.{files_of, log_of, opening_text, reads_of, state_after, state_behind}

-- ---- files

-- files that are read after others
read_more : {S : Type 0} (reads : S → List ℕ → Bool → S → Type 0) (first last : List (List ℕ × Bool)) (old mid new : S)
    → ReadsAll reads old first mid → ReadsAll reads mid last new → ReadsAll reads old (first ++ last) new
read_more reads [] last old mid new done more = subst (λ at. ReadsAll reads at last new) done more
read_more reads (asked ∷ first) last old mid new done more =
    (done.0, done.1, read_more reads first last done.0 mid new done.2 more)

module _ {S : Type 0} (known : List ℕ → Option File) (reads : S → List ℕ → Bool → S → Type 0) where
  -- no turns read no files
  pub no_turns : (old : S) → AreFromSource known reads old [] old
  no_turns old = record { asked = λ k d lt. absurd (omega arith); files = λ k d lt. absurd (omega arith); in_order = refl }

  -- one more turn reads its file, from a source that has the same files
  pub one_more_turn : (later : List ℕ → Option File) (old mid new : S) (turns : List Turn) (turn : Turn)
      → ((name : List ℕ) → later name ≡ known name) → AreFromSource known reads old turns mid
      → AreFromSource later reads mid (turn ∷ []) new → AreFromSource known reads old (turns ++ turn ∷ []) new
  one_more_turn later old mid new turns turn same done more =
      let shown : List ℕ × File → List ℕ × Bool = λ f. (f.0, is_ok f.1) in
      let files : files_of (turns ++ turn ∷ []) ≡ files_of turns ++ files_of (turn ∷ []) = filter_map-append file_of turns (turn ∷ []) in
      let from : All (IsFromSource known) (files_of (turn ∷ [])) =
      λ k d lt.
      let asked = get_or (files_of (turn ∷ [])) k d in
      subst (λ o. IfSome o (λ file. ReadGives (λ bytes. bytes) file asked.1)) (same asked.0) (more.files k d lt) in
      record {
        asked = All-append HasFileAsked turns (turn ∷ []) done.asked more.asked;
        files = subst (λ all. All (IsFromSource known) all) (sym files)
            (All-append (IsFromSource known) (files_of turns) (files_of (turn ∷ [])) done.files from);
        in_order = subst (λ all. ReadsAll reads old all new)
            (sym (ap (map shown) files ∙ map-append shown (files_of turns) (files_of (turn ∷ []))))
            (read_more reads (reads_of turns) (reads_of (turn ∷ [])) old mid new done.in_order more.in_order);
      }

-- ---- states

-- the state after one more turn
behind_more : (turns : List Turn) (s : State) (turn : Turn)
    → state_behind s (turns ++ turn ∷ []) ≡ state_after (state_behind s turns) (answer_of (state_behind s turns) turn)
behind_more [] s turn = refl
behind_more (x ∷ turns) s turn = behind_more turns (state_after s (answer_of s x)) turn

pub state_behind_more : (turns : List Turn) (s now next : State) (turn : Turn)
    → now ≡ state_behind s turns → next ≡ state_after now (answer_of now turn) → next ≡ state_behind s (turns ++ turn ∷ [])
state_behind_more turns s now next turn is_now is_next =
    is_next ∙ ap (λ z. state_after z (answer_of z turn)) is_now ∙ sym (behind_more turns s turn)

-- ---- the log

-- the events of one more turn
events_more : (turns : List Turn) (n m : ℕ) (s : State) (turn : Turn) → m ≡ n + length turns
    → events_from n s (turns ++ turn ∷ [])
    ≡ events_from n s turns ++ Asked turn.request ∷ Told (answer_text m (answer_of (state_behind s turns) turn)) ∷ []
events_more [] n m s turn is =
    let same : n ≡ m = omega arith in
    ap (λ k. Asked turn.request ∷ Told (answer_text k (answer_of s turn)) ∷ []) same
events_more (x ∷ turns) n m s turn is =
    ap (λ events. Asked x.request ∷ Told (answer_text n (answer_of s x)) ∷ events)
    (events_more turns (n + 1) m (state_after s (answer_of s x)) turn (omega arith))

module _ {D : Type 0} (log : D → List Event → D → Type 0) (old : D) where
  -- events that are logged one after the other
  logs_after : (mid new : D) (first last : List Event) → Logs log old first mid → Logs log mid last new → Logs log old (first ++ last) new
  logs_after mid new first last h k = λ from before is.
      subst (λ events. log from events new) (append_assoc before first last) (k from (before ++ first) (h from before is))

  -- nothing more is logged
  pub logs_same : (events : List Event) (now new : D) → Logs log old events now → Logs log now [] new → Logs log old events new
  logs_same events now new is none =
      subst (λ all. Logs log old all new) (append-nil events) (logs_after now new events [] is none)

  module _ (turns : List Turn) (s : State) (turn : Turn) (now mid new : D) (is : Logs log old (log_of s turns) now)
      (asked : Logs log now (Asked turn.request ∷ []) mid) where
    asked_then : Logs log old (log_of s turns ++ Asked turn.request ∷ []) mid
    asked_then = logs_after now mid (log_of s turns) (Asked turn.request ∷ []) is asked

    -- the log of one more turn
    pub logs_more : (m : ℕ) (at : State) → m ≡ length turns + 1 → at ≡ state_behind s turns
        → Logs log mid (Told (answer_text m (answer_of at turn)) ∷ []) new → Logs log old (log_of s (turns ++ turn ∷ [])) new
    logs_more m at count is_at told =
        let answer = Told (answer_text m (answer_of (state_behind s turns) turn)) ∷ [] in
        let same : (log_of s turns ++ Asked turn.request ∷ []) ++ answer ≡ log_of s (turns ++ turn ∷ []) =
        append_assoc (log_of s turns) (Asked turn.request ∷ []) answer
        ∙ ap (λ events. Told (opening_text s) ∷ events) (sym (events_more turns 1 m s turn (omega arith))) in
        subst (λ events. Logs log old events new) same
        (logs_after mid new (log_of s turns ++ Asked turn.request ∷ []) answer asked_then
        (subst (λ now. Logs log mid (Told (answer_text m (answer_of now turn)) ∷ []) new) is_at told))

    -- the log of a last request that has no answer
    pub logs_asked : Logs log mid [] new → Logs log old (log_of s turns ++ Asked turn.request ∷ []) new
    logs_asked none = logs_same (log_of s turns ++ Asked turn.request ∷ []) mid new asked_then none
