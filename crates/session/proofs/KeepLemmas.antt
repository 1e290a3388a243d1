-- What requests do to the state of a session: if fills and SET requests keep a fact about booked records and the state,
-- all requests keep it.
use Rattle.std.proofs.Common.{◌≡◌, ◌<◌, ℕ, Bool, true, false, ◌&&◌, List, [], ◌∷◌, ◌++◌, length, map}
use Rattle.std.proofs.Common.{Option, Some, None, Result, Ok, Err, refl, sym, subst, arith, append_assoc, length-drop}
use Rattle.std.specs.Prelude.{◌==◌, ⊤, IfOk, drop, if◌then◌else◌, is_ok, nat_lt}
use Rattle.std.proofs.lemmas.Bool.{or_left, or_right}
use Rattle.std.proofs.lemmas.List.{append-nil}
use Rattle.span_csv.specs.Records.{text_at}
use Rattle.span_tables.specs.Faults.{ok_unless}
use Rattle.span_tables.specs.Names.{is_name}
use Rattle.span_tables.specs.Net.{AccountHoldings}
use Rattle.span_tables.specs.Orders.{holdings_among}
use Rattle.span_tables.specs.Tables.{AcceptedTables}
use Rattle.span_tables.specs.declared.records.PositionRecord.{PositionRecord}
use Rattle.binding.specs.Trades.{held_after, trade_fault, traded}
use Rattle.binding.specs.declared.faults.BindFault.{BindFault}
use Rattle.binding.specs.declared.trades.Trade.{Trade}
use Rattle.desks.specs.declared.desk.TheConstants.{MAX_LINE}
use Rattle.explanation.specs.Explanation.{account_text}
use Rattle.sources.specs.Files.{File}
use Rattle.sources.specs.declared.ReadFault.TheVariants as read
use Rattle.statement_text.specs.Statement.{accepted_of, row_text}
use Rattle.statement_text.specs.declared.faults.SpanFault.{SpanFault}
use Rattle.session.specs.Accounts.{account_named, lost_record, under_contracts, with_account}
use Rattle.session.specs.Answers.{Answered, State, answer_to, fill_answer, filled_answer, has_no_place, if_fit, is_stdin, lines_of}
use Rattle.session.specs.Answers.{set_answer, tried, tried_answer, under_accepted, under_asked, under_tables}
use Rattle.session.specs.Conversations.{Turn, answer_of, answer_on, booked_by, booked_in, booked_records, has_new_set}
use Rattle.session.specs.Conversations.{is_new_set, is_set, request_on, state_after, state_behind}
use Rattle.session.specs.Requests.{Asked, asked_for, fields_of, form_fault, is_file_name, may_have}
use Rattle.session.specs.Requests.{request_by, request_of, request_with, unless, word_named}
use Rattle.session.specs.Requests as asked
use Rattle.session.specs.declared.faults.RequestFault.{RequestFault}
use Rattle.session.specs.declared.faults.RequestFault.TheVariants as form
use Rattle.session.specs.declared.requests.Word.{Word}
use Rattle.session.specs.declared.requests.Word.TheVariants as word
use Rattle.session.specs.Refusals.{Refused}
use Rattle.session.specs.Refusals as refused
use Rattle.session.proofs.FormLemmas.{named_behind, trades_behind_names}
use Rattle.session.proofs.TradeLemmas.{enough, tradable}

-- ---- the names of a TRY or FILL, and the trades of a FILL

-- if the request is a TRY or FILL, its order and its account are names; if it is a FILL, it has trades
unfoldable pub HasTrades : Asked → Type 0
HasTrades (asked.Try order account trades) = (is_name order ≡ true) × (is_name account ≡ true)
HasTrades (asked.Fill account trades) = (is_name account ≡ true) × (0 < length trades)
HasTrades _ = ⊤

asked_has : (w : Word) (fields : List (List ℕ)) → may_have w (length fields) ≡ true → form_fault w fields ≡ None
    → HasTrades (asked_for w fields)
unfolding HasTrades
asked_has word.Margin fields may free = by (length fields == 1)
  where
    by : (b : Bool) → HasTrades (if b then asked.Margin else asked.MarginOf (text_at fields 1))
    by true = tt
    by false = tt
asked_has word.Explain fields may free = tt
asked_has word.Try fields may free =
    let few = enough 2 (length fields) may in (
      named_behind word.Try fields free 0 (omega arith) (omega (arith, few)),
      named_behind word.Try fields free 1 (omega arith) (omega (arith, few)),
    )
asked_has word.Fill fields may free =
    let few = enough 1 (length fields) may in
    let size = length-drop 2 fields in (
      named_behind word.Fill fields free 0 (omega arith) (omega (arith, few)),
      (tradable (drop 2 fields) (trades_behind_names word.Fill fields free) (omega (arith, few, size))).some,
    )
asked_has word.Set fields may free = tt
asked_has word.Positions fields may free = tt

by_has : (w : Word) (fields : List (List ℕ)) → IfOk (request_by w fields) HasTrades
by_has w fields = by (may_have w (length fields)) (form_fault w fields) refl refl
  where
    by : (b : Bool) (o : Option RequestFault) → may_have w (length fields) ≡ b → form_fault w fields ≡ o
        → IfOk (if b then unless o (asked_for w fields) else Err form.FieldCount) HasTrades
    by true None may free = asked_has w fields may free
    by true (Some f) may free = tt
    by false o may free = tt

with_has : (o : Option Word) (line : List ℕ) → IfOk (request_with o line) HasTrades
unfolding HasTrades
with_has None line = tt
with_has (Some word.Margin) line = by_has word.Margin (fields_of line)
with_has (Some word.Explain) line = by_has word.Explain (fields_of line)
with_has (Some word.Try) line = by_has word.Try (fields_of line)
with_has (Some word.Fill) line = by_has word.Fill (fields_of line)
with_has (Some word.Set) line = by (length (fields_of line) == 1) (is_file_name (drop 4 line))
  where
    by : (b d : Bool)
        → IfOk (if b then Err form.FieldCount else if d then Ok (asked.Set (drop 4 line)) else Err (form.BadName 2)) HasTrades
    by true d = tt
    by false true = tt
    by false false = tt
with_has (Some word.Positions) line = by_has word.Positions (fields_of line)

pub request_has : (request : Option (List ℕ)) → IfOk (request_on request) HasTrades
unfolding request_of
request_has None = tt
request_has (Some line) = by (nat_lt MAX_LINE (length line))
  where
    by : (b : Bool)
        → IfOk (if b then Err form.LineTooLong else request_with (word_named (text_at (fields_of line) 0)) line) HasTrades
    by true = tt
    by false = with_has (word_named (text_at (fields_of line) 0)) line

-- ---- the state after a request

-- the portfolio of an account of a state after trades
abbrev pub after_trades : State → List ℕ → List Trade → AccountHoldings
after_trades s account trades =
    record { account = account; holdings = held_after s.tables.contracts (holdings_among s.accounts account) account trades }

-- the state after trades of an account
abbrev pub state_filled : State → List ℕ → List Trade → State
state_filled s account trades = record { tables = s.tables; accounts = with_account s.accounts (after_trades s account trades) }

-- the state under other tables
abbrev pub state_under : State → AcceptedTables → State
state_under s t = record { tables = t; accounts = map (under_contracts s.tables.contracts t.contracts) s.accounts }

-- P says something about a state and the position records that its accounts come from. Only if `Sets` holds, a SET may be
-- accepted.
module _ (P : List PositionRecord → State → Type 0) (Sets : Type 0)
    (fill_keeps : (rs : List PositionRecord) (s : State) (account : List ℕ) (u : Trade) (us : List Trade) → is_name account ≡ true
    → has_no_place s account ≡ false
    → trade_fault s.tables.contracts (holdings_among s.accounts account) account (u ∷ us) ≡ None
    → P rs s → P (rs ++ booked_records account (u ∷ us)) (state_filled s account (u ∷ us)))
    (set_keeps : Sets → (rs : List PositionRecord) (s : State) (params : List ℕ) (t : AcceptedTables) → accepted_of params ≡ Ok t → P rs s
    → P rs (state_under s t)) where
  same : (rs : List PositionRecord) (s : State) → P rs s → P (rs ++ []) s
  same rs s kept = subst (λ xs. P xs s) (sym (append-nil rs)) kept

  module _ (rs : List PositionRecord) (s : State) (kept : P rs s) where
    -- an accepted answer keeps P, if it books these records, and if `Sets` holds if it is the answer to a SET
    abbrev Keeps : Bool → List PositionRecord → Result Answered Refused → Type 0
    Keeps set booked r = IfOk r (λ a. (set ≡ true → Sets) → P (rs ++ booked) a.state)

    lines_keep : (text : AcceptedTables → AccountHoldings → List ℕ) (o : Option AccountHoldings) → Keeps false [] (lines_of s text o)
    lines_keep text None = tt
    lines_keep text (Some p) = λ sets. same rs s kept

    try_keeps : (order account : List ℕ) (r : Result AccountHoldings BindFault) → Keeps false [] (if_fit 2 (tried_answer s order account) r)
    try_keeps order account (Ok after) = λ sets. same rs s kept
    try_keeps order account (Err f) = tt

    fill_some : (account : List ℕ) (trades : List Trade) → is_name account ≡ true → 0 < length trades
        → Keeps false (booked_records account trades) (fill_answer s account trades)
    unfolding traded
    fill_some account [] named some = absurd (omega (arith, some))
    fill_some account (u ∷ us) named some =
        by (has_no_place s account) (trade_fault s.tables.contracts (holdings_among s.accounts account) account (u ∷ us)) refl refl
      where
        by : (b : Bool) (o : Option BindFault) → has_no_place s account ≡ b
            → trade_fault s.tables.contracts (holdings_among s.accounts account) account (u ∷ us) ≡ o
            → Keeps false (booked_records account (u ∷ us)) (if b then Err refused.TooManyAccounts
            else if_fit 1 (filled_answer s) (ok_unless o (after_trades s account (u ∷ us))))
        by true o place none = tt
        by false (Some f) place none = tt
        by false None place none = λ sets. fill_keeps rs s account u us named place none kept

    set_some : (name : List ℕ) (file : Option File) → Keeps true [] (set_answer s name file)
    set_some name file = by (is_stdin name) file
      where
        tables_keep : (params : List ℕ) (t : AcceptedTables) → accepted_of params ≡ Ok t → (o : Option PositionRecord)
            → Keeps true [] (under_tables s t o)
        tables_keep params t is (Some held) = tt
        tables_keep params t is None = λ sets. same rs (state_under s t) (set_keeps (sets refl) rs s params t is kept)

        accepted_keep : (params : List ℕ) (r : Result AcceptedTables SpanFault) → accepted_of params ≡ r
            → Keeps true [] (under_accepted s r)
        accepted_keep params (Err f) is = tt
        accepted_keep params (Ok t) is = tables_keep params t is (lost_record s.tables.contracts t.contracts s.accounts)

        by : (b : Bool) (file : Option File) → Keeps true [] (if b then Err (refused.File name) else under_asked s name file)
        by true file = tt
        by false None = tt
        by false (Some (Ok params)) = accepted_keep params (accepted_of params) refl
        by false (Some (Err read.Failed)) = tt
        by false (Some (Err read.TooLong)) = tt
        by false (Some (Err read.OutOfMemory)) = tt

    asked_keeps : (file : Option File) (what : Asked) → HasTrades what
        → Keeps (is_set (Ok what)) (booked_by (Ok what)) (answer_to s file what)
    unfolding answer_to HasTrades
    asked_keeps file asked.Margin has = λ sets. same rs s kept
    asked_keeps file (asked.MarginOf name) has = lines_keep row_text (account_named s.accounts name)
    asked_keeps file (asked.Explain name) has = lines_keep account_text (account_named s.accounts name)
    asked_keeps file (asked.Try order name trades) has = try_keeps order name (tried s name trades)
    asked_keeps file (asked.Fill name trades) has = fill_some name trades has.0 has.1
    asked_keeps file (asked.Set name) has = set_some name file
    asked_keeps file asked.Positions has = λ sets. same rs s kept

    turn_keeps : (turn : Turn) → (is_new_set s turn ≡ true → Sets)
        → P (rs ++ (if is_ok (answer_of s turn) then booked_by (request_on turn.request) else [])) (state_after s (answer_of s turn))
    turn_keeps turn =
        by (answer_of s turn) (asked_of turn.is_out_of_memory (request_on turn.request) (request_has turn.request))
      where
        asked_of : (b : Bool) (r : Result Asked RequestFault) → IfOk r HasTrades
            → Keeps (is_set r) (booked_by r) (if b then Err refused.Memory else answer_on s turn.file r)
        asked_of true r has = tt
        asked_of false (Err f) has = tt
        asked_of false (Ok what) has = asked_keeps turn.file what has

        by : (r : Result Answered Refused) → Keeps (is_set (request_on turn.request)) (booked_by (request_on turn.request)) r
            → (is_ok r && is_set (request_on turn.request) ≡ true → Sets)
            → P (rs ++ (if is_ok r then booked_by (request_on turn.request) else [])) (state_after s r)
        by (Err f) keeps sets = same rs s kept
        by (Ok a) keeps sets = keeps sets

  -- what fills and accepted SET requests keep is kept by all requests
  pub turns_keep : (turns : List Turn) (rs : List PositionRecord) (s : State) → (has_new_set s turns ≡ true → Sets) → P rs s
      → P (rs ++ booked_in s turns) (state_behind s turns)
  turns_keep [] rs s sets kept = same rs s kept
  turns_keep (turn ∷ turns) rs s sets kept =
      let this : List PositionRecord = if is_ok (answer_of s turn) then booked_by (request_on turn.request) else [] in
      let next = state_after s (answer_of s turn) in
      subst (λ xs. P xs (state_behind next turns)) (append_assoc rs this (booked_in next turns))
      (turns_keep turns (rs ++ this) next (λ later. sets (or_right (is_new_set s turn) (has_new_set next turns) later))
      (turn_keeps rs s kept turn (λ now. sets (or_left (is_new_set s turn) (has_new_set next turns) now))))
