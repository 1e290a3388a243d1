-- One turn of a session: the file that it reads, its answer, and the state after it.
use Rattle.std.proofs.Common.{◌≡◌, ℕ, Bool, true, false, List, [], ◌∷◌, Ok, Err, Option, Some, None, Result, map, refl, sym}
use Rattle.std.proofs.Common.{◌∙◌, ap, arith, subst}
use Rattle.std.proofs.lemmas.List.Elements.{All-cons, All-nil}
use Rattle.std.specs.List.{cons_option}
use Rattle.std.specs.Option.{option_to_list}
use Rattle.std.specs.Prelude.{⊤, All, MatchBool, OnOk, if◌then◌else◌, is_err, is_ok, is_some, option_map}
use Rattle.desks.specs.Events.{Event, told_by}
use Rattle.desks.specs.declared.desk.DeskFault.{DeskFault}
use Rattle.sources.specs.Files.{File}
use Rattle.sources.specs.Reads.{ReadsAll}
use Rattle.span_money.specs.LineFields.{line}
use Rattle.session.specs.Answers.{Answered, State, answer_to}
use Rattle.session.specs.Conversations.{AreFromSource, HasFileAsked, IsFromSource, IsTurn, Turn, answer_of, answer_on, answer_text}
use Rattle.session.specs.Conversations.{file_in, file_of, files_of, given, refused_line, request_on, state_after}
use Rattle.session.specs.Refusals.{Refused, refused_by}
use Rattle.session.specs.Refusals as refused
use Rattle.session.specs.Requests.{Asked, is_memory as is_memory_fault, request_of}
use Rattle.session.specs.declared.faults.RequestFault.{RequestFault}
use Rattle.session.specs.declared.faults.RequestFault.TheVariants as form
use Rattle.session.specs.declared.refusals.Refusal.{Refusal}
use Rattle.session.specs.declared.refusals.Refusal.TheVariants as refusal
use Rattle.session.specs.near.Answering.{IsRead, is_memory}

-- ---- the file of a turn

one_file : {X : Type 0} (o : Option X) → option_to_list o ≡ cons_option o []
one_file (Some x) = refl
one_file None = refl

not_given : (name : Option (List ℕ)) → given name None ≡ None
not_given (Some name) = refl
not_given None = refl

-- what was read stands for a file exactly if something was read
pub given_if_read : {X Y : Type 0} (f : X → Y) (o : Option X) (b : Bool) → is_some o ≡ b → is_some (option_map f o) ≡ b
given_if_read f (Some x) b is = is
given_if_read f None b is = is

-- each of one turn
each_of_one : (turn : Turn) → HasFileAsked turn → All HasFileAsked (turn ∷ [])
each_of_one turn has = All-cons HasFileAsked turn [] has (All-nil HasFileAsked)

module _ {S : Type 0} (known : List ℕ → Option File) (reads : S → List ℕ → Bool → S → Type 0) (before after : S) where
  -- a turn reads the file that its line asks for
  pub turn_reads : (text : List ℕ) (file : Option File) (memory : Bool) (asked : Result Asked RequestFault) → request_of text ≡ asked
      → is_some file ≡ is_some (file_in asked)
      → IsRead known reads before (file_in asked) file after
      → AreFromSource known reads before (record { request = Some text; file = file; is_out_of_memory = memory } ∷ []) after
  turn_reads text file memory asked is has read =
      let turn : Turn = record { request = Some text; file = file; is_out_of_memory = memory } in
      let e : option_to_list (given (file_in asked) file) ≡ files_of (turn ∷ []) =
      ap (λ q. option_to_list (given (file_in q) file)) (sym is) ∙ one_file (file_of turn) in
      record {
        asked = each_of_one turn (λ saved. has ∙ ap (λ q. is_some (file_in q)) (sym is));
        files = subst (λ files. All (IsFromSource known) files) e read.files;
        in_order = subst (λ files. ReadsAll reads before (map (λ f. (f.0, is_ok f.1)) files) after) e read.in_order;
      }

  -- a turn without a file reads none
  pub turn_reads_none : (request : Option (List ℕ)) (memory : Bool)
      → (memory ≡ false → false ≡ is_some (file_in (request_on request))) → after ≡ before
      → AreFromSource known reads before (record { request = request; file = None; is_out_of_memory = memory } ∷ []) after
  turn_reads_none request memory none is =
      let turn : Turn = record { request = request; file = None; is_out_of_memory = memory } in
      let e : [] ≡ files_of (turn ∷ []) = ap (λ o. cons_option o []) (sym (not_given (file_in (request_on request)))) in
      record {
        asked = each_of_one turn none;
        files = subst (λ files. All (IsFromSource known) files) e (λ k d lt. absurd (omega arith));
        in_order = subst (λ files. ReadsAll reads before (map (λ f. (f.0, is_ok f.1)) files) after) e is;
      }

-- ---- the answer of a turn

-- a property of a value applies if there is no error
pub unless_err : {A E : Type 0} (r : Result A E) (P : Type 0) → OnOk r P → is_err r ≡ false → P
unless_err (Ok x) P h ok = h
unless_err (Err e) P h ok = cc

-- a line that is not a request is rejected for its fault
pub form_refused : (s : State) (file : Option File) (asked : Result Asked RequestFault) (e : RequestFault) (r : Refusal)
    → MatchBool (is_memory_fault e) (r ≡ refusal.Memory) (r ≡ refusal.Form e)
    → MatchBool (is_memory_fault e) ⊤ (asked ≡ Err e)
    → MatchBool (is_memory r) ⊤ (answer_on s file asked ≡ Err (refused_by r))
form_refused s file asked e r is fault = by_fault (is_memory_fault e) is fault where
  by_fault : (b : Bool) → MatchBool b (r ≡ refusal.Memory) (r ≡ refusal.Form e) → MatchBool b ⊤ (asked ≡ Err e)
      → MatchBool (is_memory r) ⊤ (answer_on s file asked ≡ Err (refused_by r))
  by_fault true is fault = rw is fault
  by_fault false is fault = rw (is, fault) refl

-- a line that is not a request asks for no file
pub asks_for_nothing : (asked : Result Asked RequestFault) (e : RequestFault) (r : Refusal)
    → MatchBool (is_memory_fault e) (r ≡ refusal.Memory) (r ≡ refusal.Form e)
    → MatchBool (is_memory_fault e) ⊤ (asked ≡ Err e) → is_memory r ≡ false → false ≡ is_some (file_in asked)
asks_for_nothing asked e r is fault spoken = by_fault (is_memory_fault e) is fault where
  by_fault : (b : Bool) → MatchBool b (r ≡ refusal.Memory) (r ≡ refusal.Form e) → MatchBool b ⊤ (asked ≡ Err e)
      → false ≡ is_some (file_in asked)
  by_fault true is fault = let never = rw is at spoken in cc
  by_fault false is fault = rw fault refl

-- a refusal leaves the state unchanged, and so does an allocation failure
refused_state : (s : State) (memory : Bool) (answer : Result Answered Refused) (r : Refusal)
    → MatchBool (is_memory r) ⊤ (answer ≡ Err (refused_by r)) → (memory ≡ false → is_memory r ≡ false)
    → s ≡ state_after s (if memory then Err refused.Memory else answer)
refused_state s true answer r is spoken = refl
refused_state s false answer r is spoken =
    let none = spoken refl in
    let e : answer ≡ Err (refused_by r) = rw none at is in
    rw e refl

refused_text : (n : ℕ) (memory : Bool) (answer : Result Answered Refused) (r : Refusal)
    → MatchBool (is_memory r) ⊤ (answer ≡ Err (refused_by r)) → (memory ≡ false → is_memory r ≡ false) → memory ≡ false
    → line (refused_line n (refused_by r)) ≡ answer_text n (if memory then Err refused.Memory else answer)
refused_text n true answer r is spoken saved = cc
refused_text n false answer r is spoken saved =
    let none = spoken refl in
    let e : answer ≡ Err (refused_by r) = rw none at is in
    rw e refl

module _ {S : Type 0} (known : List ℕ → Option File) (reads : S → List ℕ → Bool → S → Type 0) (before after : S)
    (s next : State) (n : ℕ) (written : List ℕ) where
  -- a request that was answered
  pub turn_answered : (text : List ℕ) (file : Option File) (asked : Asked) → request_of text ≡ Ok asked
      → is_some file ≡ is_some (file_in (Ok asked)) → IsRead known reads before (file_in (Ok asked)) file after
      → next ≡ state_after s (answer_to s file asked) → written ≡ answer_text n (answer_to s file asked)
      → IsTurn known reads before s n (record { request = Some text; file = file; is_out_of_memory = false }) after next written
  turn_answered text file asked is has read state answer = record {
    source = turn_reads known reads before after text file false (Ok asked) is has read;
    state = rw is state;
    answer = λ saved. rw is answer;
  }

  -- a request that was rejected
  pub turn_refused : (turn : Turn) (r : Refusal) → AreFromSource known reads before (turn ∷ []) after → next ≡ s
      → MatchBool (is_memory r) ⊤ (answer_on s turn.file (request_on turn.request) ≡ Err (refused_by r))
      → (turn.is_out_of_memory ≡ false → (is_memory r ≡ false) × (written ≡ line (refused_line n (refused_by r))))
      → IsTurn known reads before s n turn after next written
  turn_refused turn r source same is spoken =
      let answer = answer_on s turn.file (request_on turn.request) in
      record {
        source = source;
        state = same ∙ refused_state s turn.is_out_of_memory answer r is (λ saved. (spoken saved).0);
        answer = λ saved. (spoken saved).1 ∙ refused_text n turn.is_out_of_memory answer r is (λ h. (spoken h).0) saved;
      }

  -- a request that is too long was rejected
  pub turn_too_long : (memory : Bool) → after ≡ before → next ≡ s
      → (memory ≡ false → written ≡ line (refused_line n (refused.Form form.LineTooLong)))
      → IsTurn known reads before s n (record { request = None; file = None; is_out_of_memory = memory }) after next written
  turn_too_long memory source same spoken =
      turn_refused (record { request = None; file = None; is_out_of_memory = memory }) (refusal.Form form.LineTooLong)
      (turn_reads_none known reads before after None memory (λ saved. refl) source) same refl (λ saved. (refl, spoken saved))

  -- a desk was given the answer to a request
  pub turn_written : (request asked : Option (List ℕ)) (file : Option File) (logged : List Event → Type 0)
      (result : Result (Unit {0}) DeskFault) (text : List ℕ)
      → IsTurn known reads before s n (record { request = request; file = file; is_out_of_memory = false }) after next written
      → request ≡ asked → text ≡ written → logged (told_by result text)
      → (x : Turn) × (x.request ≡ asked) × AreFromSource known reads before (x ∷ []) after
      × (next ≡ state_after s (answer_of s x)) × logged (told_by result (answer_text n (answer_of s x)))
  turn_written request asked file logged result text is same told log = (
    record { request = request; file = file; is_out_of_memory = false },
    same,
    is.source,
    is.state,
    subst (λ t. logged (told_by result t)) (told ∙ is.answer refl) log,
  )

  -- a desk was given the answer to a request for which memory ran out
  pub turn_lost : (request asked : Option (List ℕ)) (file : Option File) (logged : List Event → Type 0)
      (result : Result (Unit {0}) DeskFault) (text : List ℕ)
      → IsTurn known reads before s n (record { request = request; file = file; is_out_of_memory = true }) after next written
      → request ≡ asked → text ≡ line (refused_line n refused.Memory) → logged (told_by result text)
      → (x : Turn) × (x.request ≡ asked) × AreFromSource known reads before (x ∷ []) after
      × (next ≡ state_after s (answer_of s x)) × logged (told_by result (answer_text n (answer_of s x)))
  turn_lost request asked file logged result text is same told log = (
    record { request = request; file = file; is_out_of_memory = true },
    same,
    is.source,
    is.state,
    subst (λ t. logged (told_by result t)) told log,
  )
