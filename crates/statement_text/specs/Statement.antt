-- The text of a statement, from the bytes of both files.
use Rattle.std.specs.Prelude.{ℕ, List, [], ◌∷◌, ◌++◌, flat_map, map, codes, ℤ, pos, length, Result, Ok, Err, if◌then◌else◌}
use Rattle.std.specs.List.{range_with_len}
use Rattle.std.specs.Fmt.{signed_decimal}
use Rattle.span_money.specs.LineFields.{Line, line}
use Rattle.span_csv.specs.ParamFaults.{params_of}
use Rattle.span_csv.specs.PositionFaults.{positions_of}
use Rattle.param_check.specs.CheckFaults.{checked}
use Rattle.span_tables.specs.Tables.{AcceptedTables, facts_in}
use Rattle.span_tables.specs.Net.{AccountHoldings}
use Rattle.span_tables.specs.declared.records.PositionRecord.{PositionRecord}
use Rattle.binding.specs.Binding.{bindings_of}
use Rattle.inter_credit.specs.OptionValue.{due_of, excess_of}
use Rattle.plan_ir.specs.Figures.{commodity_at, figures_of, is_commodity_held, numbers_of, option_value_of, total_to}
use Rattle.plan_ir.specs.declared.figures.Figures.{Figures}
use Rattle.statement_text.specs.declared.faults.SpanFault.{SpanFault}
use Rattle.statement_text.specs.declared.faults.SpanFault.TheVariants as fault

-- ---- the lines of an account

-- the line of a commodity's figures, after the ids of the account, the parameter set and the commodity
unfoldable pub figures_line : List ℕ → List ℕ → List ℕ → Figures → Line
figures_line account set_id commodity f = record {
  word = codes "R";
  fields = account ∷ set_id ∷ commodity ∷ map signed_decimal (numbers_of f);
}

-- the last line of an account: its total, and the numbers after it
unfoldable pub total_line : List ℕ → List ℕ → List ℤ → Line
total_line account set_id numbers = record { word = codes "T"; fields = account ∷ set_id ∷ map signed_decimal numbers }

-- the line of an account for the commodity with this index, if the account holds a contract of it
abbrev pub commodity_text : AcceptedTables → AccountHoldings → ℕ → List ℕ
commodity_text t p c =
    if is_commodity_held t p.holdings c
    then line (figures_line p.account t.set_id (commodity_at t c).id (figures_of t p.holdings c))
    else []

-- the total of an account: the sum of the requirements of all commodities
abbrev pub total_of : AcceptedTables → AccountHoldings → ℤ
total_of t p = total_to t p.holdings (length t.commodities)

-- The numbers of an account's last line: the total and, if options have a value, the account's option value, due (what
-- it has to post after its value) and excess (its value over the total).
abbrev pub total_numbers : AcceptedTables → ℤ → ℤ → List ℤ
total_numbers t total value =
    if (facts_in t).options_have_value then total ∷ value ∷ pos (due_of total value) ∷ pos (excess_of total value) ∷ [] else total ∷ []

-- the lines of an account: its figures in each commodity that it holds, in file order, and its total
unfoldable pub row_text : AcceptedTables → AccountHoldings → List ℕ
row_text t p =
    flat_map (commodity_text t p) (range_with_len 0 (length t.commodities))
    ++ line (total_line p.account t.set_id (total_numbers t (total_of t p) (option_value_of t p.holdings)))

-- the statement of portfolios, in their order
unfoldable pub statement_text : AcceptedTables → List AccountHoldings → List ℕ
statement_text t portfolios = flat_map (row_text t) portfolios

-- ---- from bytes to bytes

-- the next step, applied to the value of a result; a fault stays, under the name that the statement gives it
abbrev pub and_then : {A B F : Type 0} → (F → SpanFault) → Result A F → (A → Result B SpanFault) → Result B SpanFault
and_then named (Ok x) next = next x
and_then named (Err fault) next = Err (named fault)

-- a fault that is already a fault of the statement
abbrev pub same : SpanFault → SpanFault
same e = e

-- the accepted tables of a parameter file, or its first fault in reading, then in checking
unfoldable pub accepted_of : List ℕ → Result AcceptedTables SpanFault
accepted_of params =
    and_then fault.Params (params_of params) (λ records.
    and_then fault.Check (checked records) (λ tables. Ok tables))

-- the portfolios of position records under accepted tables, or the first fault in binding them
unfoldable pub portfolios_under : AcceptedTables → List PositionRecord → Result (List AccountHoldings) SpanFault
portfolios_under tables records =
    and_then fault.Bind (bindings_of tables.contracts records) (λ portfolios. Ok portfolios)

-- the statement of position records under accepted tables, or the first fault in binding them
unfoldable pub statement_bound : AcceptedTables → List PositionRecord → Result (List ℕ) SpanFault
statement_bound tables records =
    and_then same (portfolios_under tables records) (λ portfolios. Ok (statement_text tables portfolios))

-- the statement of the positions of a file under accepted tables, or the first fault in reading, then in binding them
unfoldable pub statement_under : AcceptedTables → List ℕ → Result (List ℕ) SpanFault
statement_under tables positions =
    and_then fault.Positions (positions_of positions) (λ records. statement_bound tables records)

-- The statement of two files, or the first fault, in this order: reading the parameters, checking them, reading the
-- positions, binding them.
unfoldable pub statement_of : List ℕ → List ℕ → Result (List ℕ) SpanFault
statement_of params positions = and_then same (accepted_of params) (λ tables. statement_under tables positions)
