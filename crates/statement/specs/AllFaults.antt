-- All faults of a parameter file, and of a position file that is checked with it.
use Rattle.std.specs.Prelude.{ℕ, Bool, true, false, List, [], ◌∷◌, ◌++◌, flat_map, map, Option, Some, None}
use Rattle.std.specs.Result.{result_ok}
use Rattle.span_csv.specs.ParamFaults.{param_faults, params_of}
use Rattle.span_csv.specs.PositionFaults.{position_faults, positions_of}
use Rattle.binding.specs.Binding.{bind_faults}
use Rattle.param_check.specs.CheckFaults.{check_faults}
use Rattle.span_tables.specs.Tables.{AcceptedTables}
use Rattle.span_tables.specs.declared.records.PositionRecord.{PositionRecord}
use Rattle.span_tables.specs.declared.records.Record.{Record}
use Rattle.statement_text.specs.FaultLines.{fault_line, fault_status}
use Rattle.statement_text.specs.Statement.{accepted_of}
use Rattle.statement_text.specs.declared.faults.SpanFault.{SpanFault}
use Rattle.statement_text.specs.declared.faults.SpanFault.TheVariants as fault
use Rattle.statement_text.specs.declared.statuses.TheConstants.{DONE}

-- ---- the parameters

-- all faults of reading a parameter file
abbrev pub unread_params : List ℕ → List SpanFault
unread_params params = map fault.Params (param_faults params)

-- all rules that records break; none if the file cannot be read and has no records
abbrev pub broken_rules : Option (List Record) → List SpanFault
broken_rules (Some records) = map fault.Check (check_faults records)
broken_rules None = []

-- all faults of a parameter file: of reading it, or else the rules that it breaks
unfoldable pub faults_of_params : List ℕ → List SpanFault
faults_of_params params = unread_params params ++ broken_rules (result_ok (params_of params))

-- ---- the positions

-- all faults of reading a position file
abbrev pub unread_positions : List ℕ → List SpanFault
unread_positions positions = map fault.Positions (position_faults positions)

-- all faults of binding records to tables; none if the parameters are not accepted or the positions cannot be read
abbrev pub unbound_positions : Option AcceptedTables → Option (List PositionRecord) → List SpanFault
unbound_positions (Some tables) (Some records) = map fault.Bind (bind_faults tables.contracts records)
unbound_positions tables records = []

-- all faults of a position file: of reading it or, if it can be read and the parameters are accepted, of binding it
unfoldable pub faults_of_positions : List ℕ → List ℕ → List SpanFault
faults_of_positions params positions =
    unread_positions positions ++ unbound_positions (result_ok (accepted_of params)) (result_ok (positions_of positions))

-- ---- both

-- all faults of a parameter file followed by all faults of a position file, if there is one
unfoldable pub faults_of : List ℕ → Option (List ℕ) → List SpanFault
faults_of params None = faults_of_params params
faults_of params (Some positions) = faults_of_params params ++ faults_of_positions params positions

-- the lines of faults
unfoldable pub faults_text : List SpanFault → List ℕ
faults_text faults = flat_map fault_line faults

-- the exit status of a list of faults: the status of the first, if there is one
abbrev pub faults_status : List SpanFault → ℕ
faults_status [] = DONE
faults_status (first ∷ others) = fault_status first

-- ---- the file that a fault belongs to

-- the fault is a fault of the positions
abbrev pub is_of_positions : SpanFault → Bool
is_of_positions (fault.Positions e) = true
is_of_positions (fault.Bind e) = true
is_of_positions e = false

-- the fault is a fault of reading the positions
abbrev pub is_of_reading_positions : SpanFault → Bool
is_of_reading_positions (fault.Positions e) = true
is_of_reading_positions e = false
