-- The text of each read fault: its number and name, and the number of its record.
use Rattle.std.specs.Prelude.{ℕ, List, ◌++◌, codes, decimal}
use Rattle.span_csv.specs.declared.faults.ParamFault.{ParamFault}
use Rattle.span_csv.specs.declared.faults.ParamFault.TheVariants as param
use Rattle.span_csv.specs.declared.faults.PositionFault.{PositionFault}
use Rattle.span_csv.specs.declared.faults.PositionFault.TheVariants as position
use Rattle.span_csv.specs.declared.faults.OrderFault.{OrderFault}
use Rattle.span_csv.specs.declared.faults.OrderFault.TheVariants as order

abbrev pub param_text : ParamFault → List ℕ
param_text (param.NoSet at) = codes "P1 NoSet at record " ++ decimal at
param_text (param.SecondSet at) = codes "P2 SecondSet at record " ++ decimal at
param_text (param.UnknownKind at) = codes "P3 UnknownKind at record " ++ decimal at
param_text (param.FieldCount at) = codes "P4 FieldCount at record " ++ decimal at
param_text (param.BadName at) = codes "P5 BadName at record " ++ decimal at
param_text (param.BadNumber at) = codes "P6 BadNumber at record " ++ decimal at
param_text (param.OutOfRange at) = codes "P7 OutOfRange at record " ++ decimal at
param_text (param.TooMany at) = codes "P8 TooMany at record " ++ decimal at
param_text param.OutOfMemory = codes "memory"

abbrev pub position_text : PositionFault → List ℕ
position_text (position.FieldCount at) = codes "Q1 FieldCount at record " ++ decimal at
position_text (position.BadName at) = codes "Q2 BadName at record " ++ decimal at
position_text (position.BadNumber at) = codes "Q3 BadNumber at record " ++ decimal at
position_text (position.OutOfRange at) = codes "Q4 OutOfRange at record " ++ decimal at
position_text (position.TooManyAccounts at) = codes "Q5 TooManyAccounts at record " ++ decimal at
position_text position.OutOfMemory = codes "memory"

abbrev pub order_text : OrderFault → List ℕ
order_text (order.FieldCount at) = codes "O1 FieldCount at record " ++ decimal at
order_text (order.BadName at) = codes "O2 BadName at record " ++ decimal at
order_text (order.BadNumber at) = codes "O3 BadNumber at record " ++ decimal at
order_text (order.OutOfRange at) = codes "O4 OutOfRange at record " ++ decimal at
order_text (order.TooManyOrders at) = codes "O5 TooManyOrders at record " ++ decimal at
order_text (order.SecondAccount at) = codes "O6 SecondAccount at record " ++ decimal at
order_text order.OutOfMemory = codes "memory"
