-- Definitions that only the lemmas on fault lists use.
use Rattle.std.specs.Prelude.{ℕ}
use Rattle.span_csv.specs.declared.faults.ParamFault.{ParamFault}
use Rattle.span_csv.specs.declared.faults.ParamFault.TheVariants as param
use Rattle.span_csv.specs.declared.faults.PositionFault.{PositionFault}
use Rattle.span_csv.specs.declared.faults.PositionFault.TheVariants as position

-- the record number in a fault of a parameter file; out of memory has none
abbrev pub param_number : ParamFault → ℕ
param_number (param.NoSet at) = at
param_number (param.SecondSet at) = at
param_number (param.UnknownKind at) = at
param_number (param.FieldCount at) = at
param_number (param.BadName at) = at
param_number (param.BadNumber at) = at
param_number (param.OutOfRange at) = at
param_number (param.TooMany at) = at
param_number param.OutOfMemory = 0

-- the record number in a fault of a position file; out of memory has none
abbrev pub position_number : PositionFault → ℕ
position_number (position.FieldCount at) = at
position_number (position.BadName at) = at
position_number (position.BadNumber at) = at
position_number (position.OutOfRange at) = at
position_number (position.TooManyAccounts at) = at
position_number position.OutOfMemory = 0
