-- The text of an explanation, from the bytes of both files.
use Rattle.std.specs.Prelude.{ℕ, if◌then◌else◌, List, [], ◌∷◌, ◌++◌, flat_map, map, find, bytes_eq, length}
use Rattle.std.specs.Prelude.{Option, Some, None, Result, Ok, Err}
use Rattle.std.specs.List.{range_with_len}
use Rattle.span_money.specs.LineFields.{Line, line}
use Rattle.span_csv.specs.PositionFaults.{positions_of}
use Rattle.span_tables.specs.Net.{AccountHoldings}
use Rattle.span_tables.specs.Tables.{AcceptedTables}
use Rattle.plan_ir.specs.Figures.{commodity_at, figures_of, is_commodity_held, option_value_of}
use Rattle.statement_text.specs.Statement.{accepted_of, and_then, figures_line, portfolios_under, same, total_line, total_numbers, total_of}
use Rattle.statement_text.specs.declared.faults.SpanFault.{SpanFault}
use Rattle.statement_text.specs.declared.faults.SpanFault.TheVariants as fault
use Rattle.reasons.specs.Reasons.{reasons_of}

-- ---- the lines of an account

-- a line of a commodity, with the ids of the account, the parameter set and the commodity after its word
abbrev pub reason_line : List ℕ → List ℕ → List ℕ → Line → Line
reason_line account set_id commodity r = record { word = r.word; fields = account ∷ set_id ∷ commodity ∷ r.fields }

-- the lines of an account for the commodity of number c, if it holds a contract in it: the reasons, and then the
-- figures
abbrev pub commodity_lines : AcceptedTables → AccountHoldings → ℕ → List Line
commodity_lines t p c =
    if is_commodity_held t p.holdings c
    then map (reason_line p.account t.set_id (commodity_at t c).id) (reasons_of t p.holdings c)
    ++ figures_line p.account t.set_id (commodity_at t c).id (figures_of t p.holdings c) ∷ []
    else []

-- the lines of an account: the lines of the commodities that it holds, in file order, and its total
abbrev pub account_lines : AcceptedTables → AccountHoldings → List Line
account_lines t p =
    flat_map (commodity_lines t p) (range_with_len 0 (length t.commodities))
    ++ total_line p.account t.set_id (total_numbers t (total_of t p) (option_value_of t p.holdings)) ∷ []

-- the text of an account's lines
unfoldable pub account_text : AcceptedTables → AccountHoldings → List ℕ
account_text t p = flat_map line (account_lines t p)

-- ---- from bytes to bytes

-- the text of the portfolio of the named account, or the fault that there is none
abbrev pub named_text : AcceptedTables → List ℕ → Option AccountHoldings → Result (List ℕ) SpanFault
named_text t name None = Err (fault.UnknownAccount name)
named_text t name (Some p) = Ok (account_text t p)

-- the text of all portfolios in their order, or only of the named account's portfolio
abbrev pub explained : AcceptedTables → List AccountHoldings → Option (List ℕ) → Result (List ℕ) SpanFault
explained t portfolios None = Ok (flat_map (account_text t) portfolios)
explained t portfolios (Some name) = named_text t name (find (λ p. bytes_eq p.account name) portfolios)

-- The explanation of two files, for all accounts or for one, or the first fault. Faults come in this order: reading the
-- parameters, checking them, reading the positions, binding them, and an account that is not among the positions.
unfoldable pub explanation_of : List ℕ → List ℕ → Option (List ℕ) → Result (List ℕ) SpanFault
explanation_of params positions account =
    and_then same (accepted_of params) (λ tables.
    and_then fault.Positions (positions_of positions) (λ records.
    and_then same (portfolios_under tables records) (λ portfolios. explained tables portfolios account)))
