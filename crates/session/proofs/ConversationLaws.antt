-- Lemmas about conversations.
use Rattle.std.proofs.Common.{◌≡◌, ◌∙◌, ◌+◌, ℕ, Bool, true, false, List, [], ◌∷◌, ◌++◌, length, refl, ap, arith}
use Rattle.std.proofs.Common.{Option, Some, None, Result, Ok, Err}
use Rattle.std.specs.Prelude.{if◌then◌else◌}
use Rattle.binding.specs.declared.faults.BindFault.{BindFault}
use Rattle.explanation.specs.Explanation.{account_text}
use Rattle.sources.specs.Files.{File}
use Rattle.span_tables.specs.Net.{AccountHoldings}
use Rattle.span_tables.specs.Tables.{AcceptedTables}
use Rattle.statement_text.specs.Statement.{row_text}
use Rattle.session.specs.Accounts.{account_named}
use Rattle.session.specs.Answers.{State, answer_to, if_fit, lines_of, tried, tried_answer}
use Rattle.session.specs.Conversations.{Turn, answer_of, answer_on, answer_text, answers_from, may_change, numbered_from, outcomes}
use Rattle.session.specs.Conversations.{request_on, state_after, state_behind}
use Rattle.session.specs.Refusals.{Refused}
use Rattle.session.specs.Refusals as refused
use Rattle.session.specs.Requests.{Asked}
use Rattle.session.specs.Requests as asked
use Rattle.session.specs.declared.faults.RequestFault.{RequestFault}

pub answers_first : (n : ℕ) (s : State) (turns more : List Turn) → answers_from n s (turns ++ more)
    ≡ answers_from n s turns ++ answers_from (n + length turns) (state_behind s turns) more
answers_first n s [] more = (let same : n ≡ n + 0 = omega arith in ap (λ k. answers_from k s more) same)
answers_first n s (turn ∷ turns) more =
    let next = state_after s (answer_of s turn) in
    let count : n + 1 + length turns ≡ n + length (turn ∷ turns) = omega arith in
    ap (λ texts. answer_text n (answer_of s turn) ∷ texts)
    (answers_first (n + 1) next turns more
    ∙ ap (λ k. answers_from (n + 1) next turns ++ answers_from k (state_behind next turns) more) count)

pub state_of_both : (s : State) (turns more : List Turn) → state_behind s (turns ++ more) ≡ state_behind (state_behind s turns) more
state_of_both s [] more = refl
state_of_both s (turn ∷ turns) more = state_of_both (state_after s (answer_of s turn)) turns more

pub refused_same : (s : State) (turn : Turn) (what : Refused) → answer_of s turn ≡ Err what → state_after s (answer_of s turn) ≡ s
refused_same s turn what e = ap (state_after s) e

pub outcomes_both : (s : State) (turns more : List Turn)
    → outcomes s (turns ++ more) ≡ outcomes s turns ++ outcomes (state_behind s turns) more
outcomes_both s [] more = refl
outcomes_both s (turn ∷ turns) more =
    ap (λ rest. answer_of s turn ∷ rest) (outcomes_both (state_after s (answer_of s turn)) turns more)

pub outcomes_with : (s : State) (turns : List Turn) (turn : Turn) (more : List Turn)
    → state_after (state_behind s turns) (answer_of (state_behind s turns) turn) ≡ state_behind s turns
    → outcomes s (turns ++ turn ∷ more)
    ≡ outcomes s turns ++ answer_of (state_behind s turns) turn ∷ outcomes (state_behind s turns) more
outcomes_with s turns turn more same =
    let t = state_behind s turns in
    outcomes_both s turns (turn ∷ more) ∙ ap (λ next. outcomes s turns ++ answer_of t turn ∷ outcomes next more) same

pub numbered : (n : ℕ) (s : State) (turns : List Turn) → answers_from n s turns ≡ numbered_from n (outcomes s turns)
numbered n s [] = refl
numbered n s (turn ∷ turns) =
    ap (λ rest. answer_text n (answer_of s turn) ∷ rest) (numbered (n + 1) (state_after s (answer_of s turn)) turns)

-- ---- requests that leave the state as it is

module _ (s : State) where
  lines_stay : (text : AcceptedTables → AccountHoldings → List ℕ) (o : Option AccountHoldings) → state_after s (lines_of s text o) ≡ s
  lines_stay text None = refl
  lines_stay text (Some p) = refl

  try_stays : (order account : List ℕ) (r : Result AccountHoldings BindFault)
      → state_after s (if_fit 2 (tried_answer s order account) r) ≡ s
  try_stays order account (Ok after) = refl
  try_stays order account (Err f) = refl

  asked_stays : (file : Option File) (what : Asked) → may_change (Ok what) ≡ false → state_after s (answer_to s file what) ≡ s
  unfolding answer_to
  asked_stays file asked.Margin kept = refl
  asked_stays file (asked.MarginOf name) kept = lines_stay row_text (account_named s.accounts name)
  asked_stays file (asked.Explain name) kept = lines_stay account_text (account_named s.accounts name)
  asked_stays file (asked.Try order name trades) kept = try_stays order name (tried s name trades)
  asked_stays file (asked.Fill name trades) kept = cc
  asked_stays file (asked.Set name) kept = cc
  asked_stays file asked.Positions kept = refl

  pub state_stays : (turn : Turn) → may_change (request_on turn.request) ≡ false → state_after s (answer_of s turn) ≡ s
  state_stays turn = by turn.is_out_of_memory (request_on turn.request)
    where
      by : (b : Bool) (r : Result Asked RequestFault) → may_change r ≡ false
          → state_after s (if b then Err refused.Memory else answer_on s turn.file r) ≡ s
      by true r kept = refl
      by false (Err f) kept = refl
      by false (Ok what) kept = asked_stays turn.file what kept
