-- The answer of a session to a request in a state, and the state after the answer.
use Rattle.std.specs.Prelude.{ℕ, ◌+◌, ◌*◌, Bool, not, ◌&&◌, nat_le, if◌then◌else◌, List, length, map, bytes_eq}
use Rattle.std.specs.Prelude.{codes, Option, Some, None, is_some, Result, Ok, Err}
use Rattle.span_money.specs.LineFields.{line}
use Rattle.span_csv.specs.PositionFaults.{positions_of}
use Rattle.span_tables.specs.Net.{AccountHoldings}
use Rattle.span_tables.specs.Orders.{holdings_among}
use Rattle.span_tables.specs.Tables.{AcceptedTables}
use Rattle.span_tables.specs.declared.limits.TheConstants.{MAX_ACCOUNTS}
use Rattle.span_tables.specs.declared.records.PositionRecord.{PositionRecord}
use Rattle.binding.specs.OrderBinding.{TriedOrder}
use Rattle.binding.specs.Trades.{traded}
use Rattle.binding.specs.declared.faults.BindFault.{BindFault}
use Rattle.binding.specs.declared.faults.BindFault.TheVariants as bind
use Rattle.plan_ir.specs.Figures.{option_value_of}
use Rattle.sources.specs.Files.{File}
use Rattle.sources.specs.declared.ReadFault.TheVariants as read
use Rattle.statement_text.specs.Statement.{accepted_of, and_then, portfolios_under, row_text, same, statement_text, total_line}
use Rattle.statement_text.specs.Statement.{total_numbers, total_of}
use Rattle.statement_text.specs.declared.faults.SpanFault.{SpanFault}
use Rattle.statement_text.specs.declared.faults.SpanFault.TheVariants as fault
use Rattle.statement.specs.Counts.{counts_line}
use Rattle.explanation.specs.Explanation.{account_text}
use Rattle.whatif.specs.Whatif.{order_text}
use Rattle.session.specs.Accounts.{account_named, lost_record, position_records, under_contracts, with_account}
use Rattle.session.specs.Positions.{position_lines}
use Rattle.session.specs.Refusals.{Refused}
use Rattle.session.specs.Refusals as refused
use Rattle.session.specs.Requests.{Asked, names_of}
use Rattle.session.specs.Requests as asked
use Rattle.binding.specs.declared.trades.Trade.{Trade}
use Rattle.session.specs.declared.requests.Word.TheVariants as word

-- the state of a session: accepted tables, and the accounts with their holdings under these, in their order
pub record State : Type 0 where
  pub tables : AcceptedTables
  pub accounts : List AccountHoldings

-- the state that two accepted files open, or the first fault of their statement
unfoldable pub opened : List ℕ → List ℕ → Result State SpanFault
opened params positions =
    and_then same (accepted_of params) (λ tables.
    and_then fault.Positions (positions_of positions) (λ records.
    and_then same (portfolios_under tables records) (λ accounts. Ok (record { tables = tables; accounts = accounts }))))

-- an answer: its lines, and the state after it
pub record Answered : Type 0 where
  pub lines : List ℕ
  pub state : State

-- lines that leave the state unchanged
abbrev pub unchanged : State → List ℕ → Result Answered Refused
unchanged s lines = Ok (record { lines = lines; state = s })

-- the lines of an account that is asked for, if it is known
abbrev pub lines_of : State → (AcceptedTables → AccountHoldings → List ℕ) → Option AccountHoldings → Result Answered Refused
lines_of s text None = Err refused.UnknownAccount
lines_of s text (Some p) = unchanged s (text s.tables p)

-- ---- trades

-- the portfolio of an account of a state after trades, or their fault
abbrev pub tried : State → List ℕ → List Trade → Result AccountHoldings BindFault
tried s account trades = traded s.tables.contracts (holdings_among s.accounts account) account trades

-- The refusal of trades that do not fit, for a request with this many names before its trades. The fault has the number
-- of a trade, from 1.
abbrev pub unfit : ℕ → BindFault → Refused
unfit names (bind.UnknownContract at account) = refused.UnknownContract (names + 2 * at)
unfit names (bind.NetOutOfRange at account) = refused.NetOutOfRange (names + 2 * at)
unfit names (bind.TooManyHeld at account) = refused.TooManyHeld (names + 1)
unfit names bind.OutOfMemory = refused.Memory

-- the answer to trades that fit, or the refusal of trades that do not, for a request with this many names before its
-- trades
abbrev pub if_fit : ℕ → (AccountHoldings → Answered) → Result AccountHoldings BindFault → Result Answered Refused
if_fit names answer (Ok after) = Ok (answer after)
if_fit names answer (Err e) = Err (unfit names e)

-- an order on an account of a state, from the account's portfolio after it
abbrev pub order_on : State → List ℕ → List ℕ → AccountHoldings → TriedOrder
order_on s order account after =
    record { order = order; before = record { account = account; holdings = holdings_among s.accounts account }; after = after }

-- the answer to a TRY: the lines of the order; the state is unchanged
abbrev pub tried_answer : State → List ℕ → List ℕ → AccountHoldings → Answered
tried_answer s order account after = record { lines = order_text s.tables (order_on s order account after); state = s }

-- the last line of an account: its total
abbrev pub total_text : AcceptedTables → AccountHoldings → List ℕ
total_text t p = line (total_line p.account t.set_id (total_numbers t (total_of t p) (option_value_of t p.holdings)))

-- a state in which an account has its new holdings
abbrev pub with_portfolio : State → AccountHoldings → State
with_portfolio s after = record { tables = s.tables; accounts = with_account s.accounts after }

-- the answer to trades that were done: the account's total after the trades
abbrev pub filled_answer : State → AccountHoldings → Answered
filled_answer s after = record { lines = total_text s.tables after; state = with_portfolio s after }

-- there is no room for an account: it is not known, and there are as many accounts as the limit allows
abbrev pub has_no_place : State → List ℕ → Bool
has_no_place s account = not (is_some (account_named s.accounts account)) && nat_le MAX_ACCOUNTS (length s.accounts)

-- the answer to trades that were done
abbrev pub fill_answer : State → List ℕ → List Trade → Result Answered Refused
fill_answer s account trades =
    if has_no_place s account
    then Err refused.TooManyAccounts
    else if_fit (names_of word.Fill) (filled_answer s) (tried s account trades)

-- ---- another parameter set

-- this is the file name of the stream of requests
abbrev pub is_stdin : List ℕ → Bool
is_stdin name = bytes_eq name (codes "/dev/stdin")

-- accepted tables that replace the earlier ones, unless they lack the contract of a holding
abbrev pub under_tables : State → AcceptedTables → Option PositionRecord → Result Answered Refused
under_tables s t (Some held) = Err (refused.Lost held.account held.contract)
under_tables s t None = Ok (record {
  lines = line (counts_line t);
  state = record { tables = t; accounts = map (under_contracts s.tables.contracts t.contracts) s.accounts };
})

-- the tables of a file, or its first fault
abbrev pub under_accepted : State → Result AcceptedTables SpanFault → Result Answered Refused
under_accepted s (Ok t) = under_tables s t (lost_record s.tables.contracts t.contracts s.accounts)
under_accepted s (Err e) = Err (refused.Parameters e)

-- the answer for the file with this name, from the result of reading it
abbrev pub under_file : State → List ℕ → File → Result Answered Refused
under_file s name (Ok params) = under_accepted s (accepted_of params)
under_file s name (Err read.OutOfMemory) = Err refused.Memory
under_file s name (Err _) = Err (refused.File name)

-- the answer for the file with this name, if it was asked for; if it was not, memory ran out
abbrev pub under_asked : State → List ℕ → Option File → Result Answered Refused
under_asked s name None = Err refused.Memory
under_asked s name (Some file) = under_file s name file

-- the answer to a request for another parameter set
abbrev pub set_answer : State → List ℕ → Option File → Result Answered Refused
set_answer s name file = if is_stdin name then Err (refused.File name) else under_asked s name file

-- ---- all requests

-- The answer to a request in a state, or why it is rejected. `file` is the result of reading the file of a SET, if it
-- was asked for.
unfoldable pub answer_to : State → Option File → Asked → Result Answered Refused
answer_to s file asked.Margin = unchanged s (statement_text s.tables s.accounts)
answer_to s file (asked.MarginOf account) = lines_of s row_text (account_named s.accounts account)
answer_to s file (asked.Explain account) = lines_of s account_text (account_named s.accounts account)
answer_to s file (asked.Try order account trades) =
    if_fit (names_of word.Try) (tried_answer s order account) (tried s account trades)
answer_to s file (asked.Fill account trades) = fill_answer s account trades
answer_to s file (asked.Set name) = set_answer s name file
answer_to s file asked.Positions = unchanged s (position_lines (position_records s.tables.contracts s.accounts))
