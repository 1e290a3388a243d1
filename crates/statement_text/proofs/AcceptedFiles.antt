-- What the tables and the portfolios of accepted files are.
use Rattle.std.proofs.Common.{◌≡◌, ℕ, List, Option, Some, None, Ok, Err, Result, refl}
use Rattle.span_tables.specs.Faults.{ok_unless}
use Rattle.span_tables.specs.Net.{AccountHoldings, portfolios_of}
use Rattle.span_tables.specs.Tables.{AcceptedTables, tables_of}
use Rattle.span_tables.specs.declared.records.PositionRecord.{PositionRecord}
use Rattle.span_tables.specs.declared.records.Record.{Record}
use Rattle.span_csv.specs.ParamFaults.{params_of}
use Rattle.span_csv.specs.declared.faults.ParamFault.{ParamFault}
use Rattle.binding.specs.Binding.{bind_fault, bindings_of}
use Rattle.binding.specs.declared.faults.BindFault.{BindFault}
use Rattle.param_check.specs.CheckFaults.{check_fault, checked}
use Rattle.param_check.specs.declared.faults.CheckFault.{CheckFault}
use Rattle.statement_text.specs.Statement.{accepted_of, and_then, portfolios_under}
use Rattle.statement_text.specs.declared.faults.SpanFault.TheVariants as fault

checked_are : (records : List Record) (t : AcceptedTables) → and_then fault.Check (checked records) (λ tables. Ok tables) ≡ Ok t
    → (check_fault records ≡ None) × (tables_of records ≡ t)
unfolding checked
checked_are records t e = by (check_fault records) refl e where
  by : (o : Option CheckFault) → check_fault records ≡ o
      → and_then fault.Check (ok_unless o (tables_of records)) (λ tables. Ok tables) ≡ Ok t
      → (check_fault records ≡ None) × (tables_of records ≡ t)
  by (Some f) is e = cc
  by None is e = (is, cc)

-- accepted tables are the tables of records that are read and keep the rules
pub accepted_are : (params : List ℕ) (t : AcceptedTables) → accepted_of params ≡ Ok t
    → (records : List Record) × (params_of params ≡ Ok records) × (check_fault records ≡ None) × (tables_of records ≡ t)
unfolding accepted_of
accepted_are params t e = by (params_of params) refl e where
  by : (r : Result (List Record) ParamFault) → params_of params ≡ r
      → and_then fault.Params r (λ records. and_then fault.Check (checked records) (λ tables. Ok tables)) ≡ Ok t
      → (records : List Record) × (params_of params ≡ Ok records) × (check_fault records ≡ None) × (tables_of records ≡ t)
  by (Err f) is e = cc
  by (Ok records) is e = let are = checked_are records t e in (records, is, are.0, are.1)

-- positions that have portfolios have no fault, and their portfolios are these
pub bound_are : (t : AcceptedTables) (positions : List PositionRecord) (portfolios : List AccountHoldings)
    → portfolios_under t positions ≡ Ok portfolios
    → (bind_fault t.contracts positions ≡ None) × (portfolios_of t.contracts positions ≡ portfolios)
unfolding portfolios_under bindings_of
bound_are t positions portfolios e = by (bind_fault t.contracts positions) refl e where
  by : (o : Option BindFault) → bind_fault t.contracts positions ≡ o
      → and_then fault.Bind (ok_unless o (portfolios_of t.contracts positions)) (λ found. Ok found) ≡ Ok portfolios
      → (bind_fault t.contracts positions ≡ None) × (portfolios_of t.contracts positions ≡ portfolios)
  by (Some f) is e = cc
  by None is e = (is, cc)
