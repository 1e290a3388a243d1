-- The lines of an answer before its last line have no lower-case letter.
use Rattle.std.proofs.Common.{◌≡◌, ◌≤◌, ℕ, Bool, true, false, List, [], ◌∷◌, ◌++◌, filter, flat_map, map}
use Rattle.std.proofs.Common.{Option, Some, None, Result, Ok, Err, refl, sym, subst, arith}
use Rattle.std.specs.Prelude.{◌==◌, ⊤, All, IfOk, bytes_eq, codes, if◌then◌else◌, length, pos, slice_get}
use Rattle.std.specs.Char.{is_ascii_lowercase}
use Rattle.std.specs.Fmt.{signed_decimal}
use Rattle.std.specs.List.{AllByRecursion}
use Rattle.std.proofs.lemmas.Bool.Decides.{nat_tests}
use Rattle.std.proofs.lemmas.List.Concat.{flat_map-append}
use Rattle.std.proofs.lemmas.List.Elements.{All-from_recursion, All-head}
use Rattle.span_money.specs.LineFields.{Line, field, line}
use Rattle.span_tables.specs.Faults.{ok_unless}
use Rattle.span_tables.specs.Net.{AccountHoldings}
use Rattle.span_tables.specs.Orders.{holdings_among}
use Rattle.span_tables.specs.Tables.{AcceptedTables}
use Rattle.span_tables.specs.declared.portfolios.Holding.{Holding}
use Rattle.span_tables.specs.declared.records.Contract.{Contract}
use Rattle.span_tables.specs.declared.records.PositionRecord.{PositionRecord}
use Rattle.binding.specs.Trades.{held_after, trade_fault, traded}
use Rattle.binding.specs.declared.faults.BindFault.{BindFault}
use Rattle.binding.specs.declared.trades.Trade.{Trade}
use Rattle.sources.specs.Files.{File}
use Rattle.sources.specs.declared.ReadFault.TheVariants as read
use Rattle.statement_text.specs.Statement.{accepted_of, row_text, statement_text}
use Rattle.statement_text.specs.declared.faults.SpanFault.{SpanFault}
use Rattle.statement.specs.Counts.{counts_line}
use Rattle.explanation.specs.Explanation.{account_lines, account_text}
use Rattle.explanation.specs.Laws.{is_of_statement}
use Rattle.explanation.proofs.AcceptedLemmas.{AreNamed, found_between, name_between, tables_read}
use Rattle.explanation.proofs.PlainLemmas.{account_plain, between_by_test, commodity_between, numbers_between, row_plain, total_plain}
use Rattle.explanation.proofs.ReadLemmas.{IsBetween, IsPlain, decimal_between, signed_between}
use Rattle.explanation.proofs.StatementLaws.{account_contained}
use Rattle.whatif.specs.Whatif.{change_line, change_of, changed_by, order_line, order_numbers, order_text, requirement_at}
use Rattle.binding.specs.OrderBinding.{TriedOrder}
use Rattle.session.specs.Accounts.{account_named, account_records, contract_of, flat_records, held_record, held_records, lost_record}
use Rattle.session.specs.Accounts.{position_records}
use Rattle.session.specs.Answers.{Answered, State, answer_to, fill_answer, filled_answer, has_no_place, if_fit, is_stdin, lines_of}
use Rattle.session.specs.Answers.{opened, order_on, set_answer, total_text, tried, tried_answer, under_accepted, under_asked, under_tables}
use Rattle.session.specs.Conversations.{Turn, answer_of, answer_on, done_line, opening_text, request_on, state_behind}
use Rattle.session.specs.Positions.{position_line, position_lines}
use Rattle.session.specs.Refusals.{Refused}
use Rattle.session.specs.Refusals as refused
use Rattle.session.specs.Requests.{Asked}
use Rattle.session.specs.Requests as asked
use Rattle.session.specs.declared.faults.RequestFault.{RequestFault}
use Rattle.session.specs.near.KeptStates.{IsKeptAccount}
use Rattle.session.proofs.KeepLemmas.{HasTrades, request_has, turns_keep}
use Rattle.session.proofs.KeptStateLemmas.{kept_behind}
use Rattle.session.proofs.ReadStateLemmas.{opened_is}

-- ---- lines

-- no byte is a lower-case letter
abbrev IsFree : List ℕ → Type 0
IsFree text = AllByRecursion (λ b. is_ascii_lowercase b ≡ false) text

free-append : (xs ys : List ℕ) → IsFree xs → IsFree ys → IsFree (xs ++ ys)
free-append [] ys h k = k
free-append (x ∷ xs) ys h k = (h.0, free-append xs ys h.1 k)

byte_free : (b : ℕ) → b ≤ 95 → is_ascii_lowercase b ≡ false
byte_free b le = grind (arith, nat_tests, le)

text_free : (text : List ℕ) → IsBetween text → IsFree text
text_free [] h = tt
text_free (b ∷ bs) h = (byte_free b h.0.1, text_free bs h.1)

fields_free : (fields : List (List ℕ)) → AllByRecursion IsBetween fields → IsFree (flat_map field fields)
fields_free [] h = tt
fields_free (f ∷ fs) h = (refl, free-append f (flat_map field fs) (text_free f h.0) (fields_free fs h.1))

line_free : (l : Line) → IsPlain l → IsFree (line l)
line_free l plain =
    free-append l.word (flat_map field l.fields ++ 10 ∷ []) (text_free l.word plain.word)
    (free-append (flat_map field l.fields) (10 ∷ []) (fields_free l.fields plain.fields) (refl, tt))

-- texts of elements for which P holds
texts_free : {A : Type 0} (P : A → Type 0) (text : A → List ℕ) → ((x : A) → P x → IsFree (text x)) → (xs : List A) → AllByRecursion P xs
    → IsFree (flat_map text xs)
texts_free P text each [] all = tt
texts_free P text each (x ∷ xs) all =
    free-append (text x) (flat_map text xs) (each x all.0) (texts_free P text each xs all.1)

-- ---- the texts of answers

module _ (t : AcceptedTables) (named : AreNamed t) where
  row_free : (p : AccountHoldings) → IsBetween p.account → IsFree (row_text t p)
  row_free p account =
      subst IsFree (account_contained t p)
      (texts_free IsPlain line line_free (filter is_of_statement (account_lines t p)) (row_plain t named p account))

  explained_free : (p : AccountHoldings) → IsBetween p.account → IsFree (account_text t p)
  unfolding account_text
  explained_free p account = texts_free IsPlain line line_free (account_lines t p) (account_plain t named p account)

  total_free : (p : AccountHoldings) → IsBetween p.account → IsFree (total_text t p)
  total_free p account = line_free _ (total_plain p.account t.set_id _ account named.set_id)

  counts_free : IsFree (line (counts_line t))
  unfolding counts_line
  counts_free = line_free (counts_line t) (record {
    word = between_by_test (codes "OK") refl;
    fields = (
      named.set_id,
      (
        decimal_between _,
        (decimal_between _, (decimal_between _, (decimal_between _, (decimal_between _, (decimal_between _, tt))))),
      ),
    );
  })

  module _ (o : TriedOrder) (order : IsBetween o.order) (account : IsBetween (o.after).account) where
    changes_free : (cs : List ℕ) → IsFree (flat_map (λ c. line (change_line t o c)) cs)
    unfolding change_line
    changes_free [] = tt
    changes_free (c ∷ cs) =
        free-append (line (change_line t o c)) (flat_map (λ d. line (change_line t o d)) cs)
        (line_free (change_line t o c) (record {
          word = between_by_test (codes "CHANGE") refl;
          fields = (
            order,
            (
              account,
              (
                named.set_id,
                (
                  commodity_between t named c,
                  numbers_between (change_of (requirement_at t o.before c) (requirement_at t o.after c)),
                ),
              ),
            ),
          );
        }))
        (changes_free cs)

    order_free : IsFree (order_text t o)
    unfolding order_text order_line
    order_free =
        free-append (flat_map (λ c. line (change_line t o c)) (changed_by t o)) (line (order_line t o)) (changes_free (changed_by t o))
        (line_free (order_line t o) (record {
          word = between_by_test (codes "ORDER") refl;
          fields = (order, (account, (named.set_id, numbers_between (order_numbers t o))));
        }))

  -- ---- position records

  contract_between : (h : Holding) → IsBetween (contract_of t.contracts h)
  contract_between h = by (slice_get t.contracts h.contract) refl
    where
      by : (o : Option Contract) → slice_get t.contracts h.contract ≡ o → IsBetween (contract_of t.contracts h)
      by None is = rw is tt
      by (Some x) is = rw is (found_between t.contracts h.contract x is named.contracts)

  record_free : (p : PositionRecord) → IsBetween p.account → IsBetween p.contract → IsFree (position_line p)
  record_free p account contract =
      line_free (record { word = p.account; fields = p.contract ∷ signed_decimal p.quantity ∷ [] })
      (record { word = account; fields = (contract, (signed_between p.quantity, tt)) })

  held_free : (account : List ℕ) → IsBetween account → (hs : List Holding)
      → IsFree (flat_map position_line (map (held_record t.contracts account) hs))
  held_free account named_account [] = tt
  held_free account named_account (h ∷ hs) =
      free-append (position_line (held_record t.contracts account h)) (flat_map position_line (map (held_record t.contracts account) hs))
      (record_free (held_record t.contracts account h) named_account (contract_between h))
      (held_free account named_account hs)

  flat_free : (contracts : List Contract) → All (λ x. IsBetween x.id) contracts → (account : List ℕ) → IsBetween account
      → IsFree (flat_map position_line (flat_records contracts account))
  flat_free [] all account named_account = tt
  flat_free (x ∷ xs) all account named_account =
      let p : PositionRecord = record { account = account; contract = x.id; quantity = pos 0 } in
      free-append (position_line p) [] (record_free p named_account (All-head (λ (y : Contract). IsBetween y.id) x xs all)) tt

  account_free : (p : AccountHoldings) → IsBetween p.account → IsFree (flat_map position_line (account_records t.contracts p))
  account_free p account = by (length p.holdings == 0)
    where
      by : (b : Bool)
          → IsFree (flat_map position_line (if b then flat_records t.contracts p.account else held_records t.contracts p))
      by true = flat_free t.contracts named.contracts p.account account
      by false = held_free p.account account p.holdings

  positions_free : (ps : List AccountHoldings) → AllByRecursion (λ p. IsBetween p.account) ps
      → IsFree (position_lines (position_records t.contracts ps))
  positions_free [] all = tt
  positions_free (p ∷ ps) all =
      subst IsFree (sym (flat_map-append position_line (account_records t.contracts p) (position_records t.contracts ps)))
      (free-append (flat_map position_line (account_records t.contracts p)) (position_lines (position_records t.contracts ps))
      (account_free p all.0) (positions_free ps all.1))

-- ---- the answers in a state

module _ (s : State) (named : AreNamed s.tables) (accounts : AllByRecursion (λ p. IsBetween p.account) s.accounts) where
  -- the lines of an accepted answer
  abbrev Frees : Result Answered Refused → Type 0
  Frees r = IfOk r (λ a. IsFree a.lines)

  lines_free : (text : AcceptedTables → AccountHoldings → List ℕ)
      → ((p : AccountHoldings) → IsBetween p.account → IsFree (text s.tables p)) → (ps : List AccountHoldings)
      → AllByRecursion (λ p. IsBetween p.account) ps → (name : List ℕ) → Frees (lines_of s text (account_named ps name))
  lines_free text each [] all name = tt
  lines_free text each (p ∷ ps) all name = by (bytes_eq p.account name) (lines_free text each ps all.1 name)
    where
      by : (b : Bool) → Frees (lines_of s text (account_named ps name))
          → Frees (lines_of s text (if b then Some p else account_named ps name))
      by true rest = each p all.0
      by false rest = rest

  tried_free : (names : ℕ) (answer : AccountHoldings → Answered) (account : List ℕ) (trades : List Trade)
      → ((hs : List Holding) → IsFree (answer (record { account = account; holdings = hs })).lines)
      → Frees (if_fit names answer (tried s account trades))
  unfolding traded
  tried_free names answer account trades each =
      by (trade_fault s.tables.contracts (holdings_among s.accounts account) account trades)
    where
      held : List Holding
      held = held_after s.tables.contracts (holdings_among s.accounts account) account trades

      by : (o : Option BindFault) → Frees (if_fit names answer (ok_unless o (record { account = account; holdings = held })))
      by None = each held
      by (Some f) = tt

  fill_free : (account : List ℕ) (trades : List Trade) → IsBetween account → Frees (fill_answer s account trades)
  fill_free account trades named_account = by (has_no_place s account)
    where
      by : (b : Bool)
          → Frees (if b then Err refused.TooManyAccounts else if_fit 1 (filled_answer s) (tried s account trades))
      by true = tt
      by false =
          tried_free 1 (filled_answer s) account trades
          (λ hs. total_free s.tables named (record { account = account; holdings = hs }) named_account)

  set_free : (name : List ℕ) (file : Option File) → Frees (set_answer s name file)
  set_free name file = by (is_stdin name) file
    where
      tables_free : (params : List ℕ) (t : AcceptedTables) → accepted_of params ≡ Ok t → (o : Option PositionRecord)
          → Frees (under_tables s t o)
      tables_free params t is (Some held) = tt
      tables_free params t is None = counts_free t (tables_read params t is).named

      accepted_free : (params : List ℕ) (r : Result AcceptedTables SpanFault) → accepted_of params ≡ r → Frees (under_accepted s r)
      accepted_free params (Err f) is = tt
      accepted_free params (Ok t) is = tables_free params t is (lost_record s.tables.contracts t.contracts s.accounts)

      by : (b : Bool) (file : Option File) → Frees (if b then Err (refused.File name) else under_asked s name file)
      by true file = tt
      by false None = tt
      by false (Some (Ok params)) = accepted_free params (accepted_of params) refl
      by false (Some (Err read.Failed)) = tt
      by false (Some (Err read.TooLong)) = tt
      by false (Some (Err read.OutOfMemory)) = tt

  asked_free : (file : Option File) (what : Asked) → HasTrades what → Frees (answer_to s file what)
  unfolding answer_to HasTrades statement_text
  asked_free file asked.Margin has =
      texts_free (λ p. IsBetween p.account) (row_text s.tables) (row_free s.tables named) s.accounts accounts
  asked_free file (asked.MarginOf name) has = lines_free row_text (row_free s.tables named) s.accounts accounts name
  asked_free file (asked.Explain name) has = lines_free account_text (explained_free s.tables named) s.accounts accounts name
  asked_free file (asked.Try order account trades) has =
      tried_free 2 (tried_answer s order account) account trades
      (λ hs. order_free s.tables named (order_on s order account (record { account = account; holdings = hs }))
      (name_between order has.0) (name_between account has.1))
  asked_free file (asked.Fill account trades) has = fill_free account trades (name_between account has.0)
  asked_free file (asked.Set name) has = set_free name file
  asked_free file asked.Positions has = positions_free s.tables named s.accounts accounts

  turn_free : (turn : Turn) → Frees (answer_of s turn)
  turn_free turn = by turn.is_out_of_memory (request_on turn.request) (request_has turn.request)
    where
      by : (b : Bool) (r : Result Asked RequestFault) → IfOk r HasTrades
          → Frees (if b then Err refused.Memory else answer_on s turn.file r)
      by true r has = tt
      by false (Err f) has = tt
      by false (Ok what) has = asked_free turn.file what has

-- ---- a session

accounts_between : (contracts : List Contract) (ps : List AccountHoldings) → AllByRecursion (IsKeptAccount contracts) ps
    → AllByRecursion (λ p. IsBetween p.account) ps
accounts_between contracts [] all = tt
accounts_between contracts (p ∷ ps) all = (name_between p.account all.0.named, accounts_between contracts ps all.1)

module _ (params positions : List ℕ) (s : State) where
  tables_named : opened params positions ≡ Ok s → AreNamed s.tables
  tables_named begun = (tables_read params s.tables (opened_is params positions s begun).accepted).named

  pub opening_free : opened params positions ≡ Ok s
      → (lines : List ℕ) × (opening_text s ≡ lines ++ line (done_line 0)) × All (λ b. is_ascii_lowercase b ≡ false) lines
  opening_free begun =
      let lines = line (counts_line s.tables) in
      (lines, refl, All-from_recursion (λ b. is_ascii_lowercase b ≡ false) lines (counts_free s.tables (tables_named begun)))

  pub answers_free : (turns : List Turn) (turn : Turn) (a : Answered) → opened params positions ≡ Ok s
      → answer_of (state_behind s turns) turn ≡ Ok a → All (λ b. is_ascii_lowercase b ≡ false) a.lines
  answers_free turns turn a begun is =
      let last = state_behind s turns in
      let named : AreNamed last.tables =
      turns_keep (λ rs x. AreNamed x.tables) ⊤ (λ rs x account u us named place none kept. kept)
      (λ sets rs x file t accepted kept. (tables_read file t accepted).named) turns [] s (λ set. tt) (tables_named begun) in
      let accounts = accounts_between last.tables.contracts last.accounts (kept_behind params positions s turns begun).accounts in
      All-from_recursion (λ b. is_ascii_lowercase b ≡ false) a.lines
      (subst (λ r. IfOk r (λ x. IsFree x.lines)) is (turn_free last named accounts turn))
